-- The order of diagnoses by name and cause, and that it is one.
use Rattle.std.specs.Prelude.{◌≡◌, Bool, refl}
use Rattle.std.specs.declared.cmp.Ordering.{Ordering}
use Rattle.std.specs.Ordering.{eq_by_cmp}
use Rattle.std.specs.Cmp.{IsTotalOrder, IsEquivalence}
use Rattle.std.proofs.lemmas.Cmp.{on_total, then_total, lists_total, nat_list_cmp_total, eq_by_cmp_equiv}
use Rattle.rpki_rules.specs.Lines.{cause_text}
use Rattle.rpki_rules.specs.Diagnoses.{cause_of}
use Rattle.rpki_rules.specs.declared.reason.diagnosis.Diagnosis.{Diagnosis}
use Rattle.rpki_validator.specs.rpki_walk.Diagnosed.{ToldValue, told_of}
use Rattle.rpki_questions.specs.Refused.{told_cmp}
use Rattle.rpki_questions.specs.declared.refused.Refused.{Refused}

told_total : IsTotalOrder told_cmp
told_total =
    then_total (then_total (on_total (λ (t : ToldValue). t.diagnosis.name) nat_list_cmp_total)
    (on_total (λ (t : ToldValue). cause_text (cause_of t.diagnosis.reason)) nat_list_cmp_total))
    (then_total (on_total (λ (t : ToldValue). t.diagnosis.locator) nat_list_cmp_total)
    (on_total (λ (t : ToldValue). t.diagnosis.chain) (lists_total nat_list_cmp_total)))

-- What contracts see of it.
abbrev pub refused_of : Refused → ToldValue
refused_of r = told_of r.diagnosis

-- What a diagnosis is of.
abbrev pub diagnosed : Diagnosis → Refused
diagnosed d = record { diagnosis = d }

abbrev pub refused_cmp : Refused → Refused → Ordering
refused_cmp r s = told_cmp (refused_of r) (refused_of s)

abbrev pub refused_eq : Refused → Refused → Bool
refused_eq = eq_by_cmp refused_cmp

pub refused_total : IsTotalOrder refused_cmp
refused_total = on_total refused_of told_total

pub refused_equiv : IsEquivalence refused_eq
refused_equiv = eq_by_cmp_equiv refused_total

pub refused_ties : (r s : Refused) → refused_eq r s ≡ eq_by_cmp refused_cmp r s
refused_ties r s = refl
