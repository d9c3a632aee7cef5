use Rattle.std.proofs.Common.{◌≡◌, List, ◌++◌, arith}
use Rattle.std.proofs.lemmas.Grind.{common_steps}
use Rattle.std.proofs.lemmas.Result.{IfOk-weaker}
use Rattle.rpki_walk.specs.resources.Resources.{Resources}
use Rattle.rpki_walk.proofs.Sets.{union_both}
use Rattle.rpki_walk.proofs.reach.union.+union_of.Goals as goal

pub returns-in_ok-other-in_default : goal.returns-in_ok-other-in_default
returns-in_ok-other-in_default t c =
    let front : List Resources = c.split_at.result.0.now in
    let rest : List Resources = c.split_at.result.1.now in
    let e : c.args.sets.now ≡ front ++ rest = grind (arith, common_steps) in
    IfOk-weaker _ _ _ (λ r h. union_both front rest c.args.sets.now _ _ r e c.in_ok-one-in_default.ensures c.in_ok-other-in_default.ensures h) c.union-in_default.ensures
