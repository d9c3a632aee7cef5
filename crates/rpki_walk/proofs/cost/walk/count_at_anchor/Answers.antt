use Rattle.std.proofs.Common.{◌∷◌, [], List, ℕ, IfOk, ap, subst}
use Rattle.rpki_walk.specs.Tallied.{CountsFrom}
use Rattle.rpki_walk.proofs.cost.walk.count_at_anchor.Goals as goal

pub returns-clause-facts : goal.returns-clause-facts
returns-clause-facts g c =
    subst (λ (on : List (List ℕ)). IfOk c.count_from.result (CountsFrom (g.S.Repository.world c.args.repository.now) [] on c.args.uri.now (g.S.Repository.cert c.args.anchor.now) (g.S.Repository.sets c.args.anchor.now) c.args.tally.now c.count_from.new.tally))
    (ap (λ (k : List ℕ). k ∷ []) c.in_ok-key_identifier.ensures) c.count_from.ensures.facts
