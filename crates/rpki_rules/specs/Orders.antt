-- The order of refusals, and that it is one.
use Rattle.std.specs.Prelude.{◌≡◌, Bool, refl}
use Rattle.std.specs.declared.cmp.Ordering.{Ordering}
use Rattle.std.specs.Ordering.{eq_by_cmp}
use Rattle.std.specs.Cmp.{IsTotalOrder, IsEquivalence}
use Rattle.std.proofs.lemmas.Cmp.{on_total, then_total, nat_list_cmp_total, eq_by_cmp_equiv}
use Rattle.rpki_rules.specs.Lines.{cause_text, refusal_cmp}
use Rattle.rpki_rules.specs.declared.refusal.Refusal.{Refusal}
use Rattle.rpki_rules.specs.Views.{refusal_of}

abbrev pub refusals_cmp : Refusal → Refusal → Ordering
refusals_cmp r s = refusal_cmp (refusal_of r) (refusal_of s)

abbrev pub refusals_eq : Refusal → Refusal → Bool
refusals_eq = eq_by_cmp refusals_cmp

pub refusals_total : IsTotalOrder refusals_cmp
refusals_total = then_total (on_total (λ (r : Refusal). r.name) nat_list_cmp_total)
    (on_total (λ (r : Refusal). cause_text r.cause) nat_list_cmp_total)

pub refusals_equiv : IsEquivalence refusals_eq
refusals_equiv = eq_by_cmp_equiv refusals_total

pub refusals_ties : (r s : Refusal) → refusals_eq r s ≡ eq_by_cmp refusals_cmp r s
refusals_ties r s = refl
