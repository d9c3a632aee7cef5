-- What is refused and what is diagnosed are the same.
use Rattle.std.specs.Prelude.{◌↔◌, List, map}
use Rattle.rpki_rules.specs.rpki_bundle.declared.parts.Locator.{Locator}
use Rattle.rpki_rules.specs.declared.reason.diagnosis.Diagnosis.{Diagnosis}
use Rattle.rpki_rules.specs.Words.{Mem}
use Rattle.rpki_rules.specs.World.{World}
use Rattle.rpki_rules.specs.Lines.{Refusal}
use Rattle.rpki_rules.specs.Report.{ReportValue, IsReport}
use Rattle.rpki_rules.specs.ReasonLaws.{IsNamedAlone}
use Rattle.rpki_rules.specs.Diagnoses.{refusal_in}
use Rattle.rpki_rules.specs.DiagnosisViews.{diagnosis_of, AreDiagnoses}

-- Where each locator's name is its own, as in a bundle's world, the refusals of a report are just
-- those of the world's diagnoses, by name and cause.
abbrev pub RefusalsAreDiagnosed : Type 0
RefusalsAreDiagnosed =
    (w : World) → ((l : Locator) → Mem w.locators l → IsNamedAlone w l) →
    (r : ReportValue) → IsReport w r → (ds : List Diagnosis) → AreDiagnoses w ds →
    (x : Refusal) → Mem r.refusals x ↔ Mem (map refusal_in (map diagnosis_of ds)) x
