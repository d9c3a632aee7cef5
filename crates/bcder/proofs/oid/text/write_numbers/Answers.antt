use Rattle.std.proofs.Common.{◌≡◌, ℕ, List, [], ◌∷◌, ◌++◌, ◌+◌, take, get_or, sym, subst, arith}
use Rattle.std.proofs.lemmas.List.{take_more}
use Rattle.bcder.specs.Subidentifiers.{IsShortest, InTurn}
use Rattle.bcder.proofs.Written.{turn_push}
use Rattle.bcder.proofs.oid.text.write_numbers.Goals as goal

pub loop-number-preserved : goal.loop-number-preserved
loop-number-preserved c =
    let others : List ℕ = c.args.others.now in
    let i : ℕ = c.loop-number.number-index in
    let h = c.in_ok-push_number-2.ensures in
    let value : c.from.result ≡ get_or others i 0 = omega arith in
    let text : IsShortest h.0 (get_or others i 0) = subst (IsShortest h.0) value h.2 in
    let more : take (i + 1) others ≡ take i others ++ get_or others i 0 ∷ [] = take_more others i 0 (omega arith) in
    let all = turn_push c.loop-number.octets.items h.0 (c.args.root ∷ take i others) (get_or others i 0) c.loop-number.invariant text in
    subst (λ (z : List ℕ). InTurn IsShortest z (c.args.root ∷ take (i + 1) others)) (sym h.1) (subst (λ (z : List ℕ). InTurn IsShortest (c.loop-number.octets.items ++ h.0) (c.args.root ∷ z)) (sym more) all)
