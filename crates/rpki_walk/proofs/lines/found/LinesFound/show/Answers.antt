use Rattle.std.proofs.Common.{refl}
use Rattle.rpki_walk.proofs.FoundLines.{show_gains}
use Rattle.rpki_walk.proofs.lines.found.LinesFound.show.Goals as goal

pub returns : goal.returns
returns g c =
    show_gains c.args.self.now (record { origins = c.add_origins.new.out; provisions = c.add_provisions.new.out; refusals = c.args.self.now.refusals }) (g.S.Repository.payload c.args.payload.now) refl c.in_ok-add_origins.ensures c.in_ok-add_provisions.ensures
