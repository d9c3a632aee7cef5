use Rattle.std.proofs.Common.{◌≡◌, ℕ, List, ◌∷◌, ◌+◌, ◌*◌, ap, ◌∙◌, subst, arith}
use Rattle.bcder.specs.Subidentifiers.{IsShortest, InTurn}
use Rattle.bcder.proofs.Written.{spells}
use Rattle.bcder.proofs.oid.text.write_components.Goals as goal

pub returns-in-Ok-clause-spells : goal.returns-in-Ok-clause-spells
returns-in-Ok-clause-spells c =
    let x : ℕ = c.in-Some.first.now in
    let y : ℕ = c.in-Some-split_first.second.now in
    let others : List ℕ = c.in-Some-split_first.others.now in
    let whole : c.args.components.now ≡ x ∷ y ∷ others = c.in-Some.ensures.cases.0 ∙ ap (λ (z : List ℕ). x ∷ z) c.in-Some-split_first.ensures.cases.0 in
    let root : 40 * c.from.result + c.from-2.result ≡ 40 * x + y = omega arith in
    let begins = c.in_ok-judge_components.ensures.begins in
    spells c.in-Ok.octets.items x y others c.args.components.now whole begins.0 begins.1 (subst (λ (z : ℕ). InTurn IsShortest c.in-Ok.octets.items (z ∷ others)) root c.in-Ok.ensures)
