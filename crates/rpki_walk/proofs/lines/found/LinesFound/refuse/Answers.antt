use Rattle.std.proofs.Common.{refl, ◌∙◌}
use Rattle.rpki_walk.proofs.FoundLines.{refuse_gains}
use Rattle.rpki_walk.proofs.lines.found.LinesFound.refuse.Goals as goal

pub returns : goal.returns
returns c =
    refuse_gains c.args.self.now (record { origins = c.args.self.now.origins; provisions = c.args.self.now.provisions; refusals = c.push.new.self }) c.args.name.now c.args.why c.new.result (c.new.ensures ∙ λ i. record { name = c.in_ok-clone.ensures.cases i; cause = c.args.why }) refl refl c.in_ok-push.ensures.items
