use Rattle.std.proofs.Common.{◌∷◌, [], List, ℕ, IfOk, ap, subst}
use Rattle.rpki_walk.specs.Walked.{WalksLines}
use Rattle.rpki_walk.proofs.lines.whole.lines_at_anchor.Goals as goal

pub returns-clause-facts : goal.returns-clause-facts
returns-clause-facts g c =
    subst (λ (on : List (List ℕ)). IfOk c.lines_from.result (WalksLines (g.S.Repository.world c.args.repository.now) on c.args.uri.now (g.S.Repository.cert c.args.anchor.now) (g.S.Repository.sets c.args.anchor.now) c.args.walk.now c.lines_from.new.walk))
    (ap (λ (k : List ℕ). k ∷ []) c.in_ok-key_identifier.ensures) c.lines_from.ensures.facts
