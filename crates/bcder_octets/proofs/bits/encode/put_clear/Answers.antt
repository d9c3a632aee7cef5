use Rattle.std.proofs.Common.{◌≡◌, ℕ, ◌-◌, ◌%◌, ◌^◌, List, [], ◌∷◌, refl, ap, ◌∙◌}
use Rattle.std.proofs.lemmas.Result.{on_ok_weaker}
use Rattle.bcder_octets.proofs.of_bcder_primitive.Pieces.{refused_as, stopped, wrote_as, wrote_both, front_as, front_first, front_second}
use Rattle.bcder_octets.proofs.BitWritings.{both_cleared}
use Rattle.bcder_octets.proofs.bits.encode.put_clear.Goals as goal

pub returns-in_err-put-clause-refused : goal.returns-in_err-put-clause-refused
returns-in_err-put-clause-refused g c =
    let e = c.in_err-put.ensures.refused in
    let last : List ℕ = (c.in-Some.last.now - c.in-Some.last.now % 2 ^ c.args.unused) ∷ [] in
    stopped _ _ _ c.from_residual.ensures
    (e.0, front_as (both_cleared c.args.unused c.in-Some.front.now c.in-Some.last.now c.in-Some.ensures.cases.0) (front_first {Q = λ t. t ≡ last} last refl e.1))

pub returns-clause-written : goal.returns-clause-written
returns-clause-written g c =
    let is : (t : List ℕ) → t ≡ c.clear.result ∷ [] → t ≡ (c.in-Some.last.now - c.in-Some.last.now % 2 ^ c.args.unused) ∷ [] = λ t e. e ∙ ap (λ (n : ℕ). n ∷ []) c.clear.ensures in
    on_ok_weaker _ (λ b. wrote_as (both_cleared c.args.unused c.in-Some.front.now c.in-Some.last.now c.in-Some.ensures.cases.0) (wrote_both c.in_ok-put.ensures.written (wrote_as is b))) c.put-3.ensures.written

pub returns-clause-refused : goal.returns-clause-refused
returns-clause-refused g c =
    let is : (t : List ℕ) → t ≡ c.clear.result ∷ [] → t ≡ (c.in-Some.last.now - c.in-Some.last.now % 2 ^ c.args.unused) ∷ [] = λ t e. e ∙ ap (λ (n : ℕ). n ∷ []) c.clear.ensures in
    refused_as _ _ (λ b. front_as (both_cleared c.args.unused c.in-Some.front.now c.in-Some.last.now c.in-Some.ensures.cases.0) (front_second c.in_ok-put.ensures.written (front_as is b))) c.put-3.ensures.refused
