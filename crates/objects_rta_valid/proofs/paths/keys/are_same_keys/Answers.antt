use Rattle.std.proofs.Common.{ℕ, List, sym, ◌∙◌}
use Rattle.std.proofs.lemmas.Bool.{both_ways}
use Rattle.objects_rta_valid.specs.Keys.{IsOnceEach}
use Rattle.objects_rta_valid.specs.Nodes.{each_octets}
use Rattle.objects_rta_valid.specs.Tables.{IsSetOf}
use Rattle.objects_rta_valid.proofs.KeptPaths.{match_some}
use Rattle.objects_rta_valid.proofs.Sets.{same_from, same_in_keys, same_in_signers}
use Rattle.objects_rta_valid.proofs.paths.keys.are_same_keys.Goals.{then-are_in, else-are_in}
use Rattle.objects_rta_valid.proofs.paths.keys.are_same_keys.Goals as goal

pub returns : goal.returns
returns c =
    let signers : List (List ℕ) = each_octets c.args.signers.now in
    let keys : List (List ℕ) = each_octets c.args.keys.now in
    let s = c.in-Some.of_signers in
    let k = c.in-Some-2.of_keys in
    let of_s : IsSetOf signers s = match_some c.in_ok-of_signers.field-0 s (IsOnceEach signers → ⊥) (IsSetOf signers) c.in-Some.is c.in_ok-of_signers.ensures in
    let of_k : IsSetOf keys k = match_some c.in_ok-of_keys.field-0 k (IsOnceEach keys → ⊥) (IsSetOf keys) c.in-Some-2.is c.in_ok-of_keys.ensures in
    elim c.if-are_in.branch [
      | then-are_in w ↦ (
        λ t. same_from signers keys s k of_s of_k (c.are_in.ensures.0 w.if-are_in.true) (w.are_in-then-are_in.ensures.0 (sym w.result-is ∙ t)),
        λ h. w.result-is ∙ w.are_in-then-are_in.ensures.1 (same_in_keys signers keys s k of_s of_k h),
      )
      | else-are_in w ↦ (
        λ t. absurd (both_ways c.are_in.result w.if-are_in.false (sym w.result-is ∙ t)),
        λ h. absurd (both_ways c.are_in.result w.if-are_in.false (c.are_in.ensures.1 (same_in_signers signers keys s k of_s of_k h))),
      )
    ]
