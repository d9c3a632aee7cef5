-- What was found to be wrong.
use Rattle.std.specs.Prelude.{◌≡◌, ◌⊎◌, ◌↔◌, ℕ, List, [], length, map, Option, Some, None}
use Rattle.rpki_walk.specs.resources_chain.Sets.{Run}
use Rattle.rpki_walk.specs.rpki_bundle.declared.parts.Locator.{Locator}
use Rattle.rpki_rules.specs.Certs.{Cert}
use Rattle.rpki_rules.specs.Words.{Mem}
use Rattle.rpki_rules.specs.Kinds.{Kind}
use Rattle.rpki_rules.specs.World.{World}
use Rattle.rpki_rules.specs.Points.{Point}
use Rattle.rpki_rules.specs.Views.{PathValue}
use Rattle.rpki_rules.specs.FileReasons.{FileReason, FileFails}
use Rattle.rpki_rules.specs.Diagnoses.{OfFile, DiagnosisValue, FileTells, on_chain, DiagnosesLocator}
use Rattle.rpki_rules.specs.declared.reason.diagnosis.Diagnosis.{Diagnosis}
use Rattle.rpki_rules.specs.DiagnosisViews.{diagnosis_of, unheld_of}
use Rattle.rpki_walk.specs.declared.diagnosis.judged.Judged.{Judged}
use Rattle.rpki_walk.specs.Facts.{Finding, Refuses, Shows, Originates, Provides, Reaches, Chains, Diagnoses, Unheld}

-- What is wrong with the file of the point at the end of a chain that holds so much, has these keys
-- and these lookup keys.
pub record DiagnosesAt (w : World) (held : Kind → ℕ → Type 0) (on : List (List ℕ))
    (path : PathValue) (ca : Cert) (p : Point) (uri : List ℕ) (d : DiagnosisValue) : Type 0 where
  pub reason : FileReason
  pub fails : FileFails w held on (length on) ca p uri reason
  pub is : d ≡ on_chain path uri (OfFile reason)

-- A diagnosis with the numbers that it tells.
pub record ToldValue : Type 0 where
  pub diagnosis : DiagnosisValue
  pub numbers : List Run

abbrev pub told_of : Diagnosis → ToldValue
told_of d = record { diagnosis = diagnosis_of d; numbers = unheld_of d }

-- Of what is wrong with the file these are the numbers that a reason tells.
abbrev pub TellsAt : World → (Kind → ℕ → Type 0) → List (List ℕ) → PathValue → Cert → Point
    → List ℕ → ToldValue → Type 0
TellsAt w held on path ca p uri t =
    (a : DiagnosesAt w held on path ca p uri t.diagnosis)
    × FileTells w held uri a.reason t.numbers

-- It is the locator's, and tells no numbers.
abbrev pub IsOfLocator : World → Locator → Diagnosis → Type 0
IsOfLocator w l d = DiagnosesLocator w l (diagnosis_of d) × (unheld_of d ≡ [])

-- As it is seen, it is the one that P holds of, or P holds of none.
abbrev pub IsOnly : {X : Type 0} → (Diagnosis → X) → (X → Type 0) → Option Diagnosis → Type 0
IsOnly {X} seen P None = (x : X) → ¬ (P x)
IsOnly {X} seen P (Some d) = (x : X) → P x ↔ (seen d ≡ x)

-- As they are seen, the new list has what the old one has, and what P holds of.
abbrev pub Adds : {X : Type 0} → (Diagnosis → X) → List Diagnosis → (X → Type 0) → List Diagnosis
    → Type 0
Adds {X} seen old P new = (x : X) → Mem (map seen new) x ↔ (Mem (map seen old) x ⊎ P x)

-- What was found has this.
abbrev pub has_diagnosed : Judged → Finding → Type 0
has_diagnosed j (Refuses name why) = ⊥
has_diagnosed j (Shows t) = ⊥
has_diagnosed j (Originates o) = ⊥
has_diagnosed j (Provides p) = ⊥
has_diagnosed j (Reaches k n) = ⊥
has_diagnosed j (Chains v) = ⊥
has_diagnosed j (Diagnoses d) = Mem (map diagnosis_of j.found.items) d
has_diagnosed j (Unheld d numbers) =
    Mem (map told_of j.found.items) (record { diagnosis = d; numbers = numbers })

-- What is wrong, with the numbers that this tells, and nothing else.
abbrev pub IsDiagnosed : Finding → Type 0
IsDiagnosed (Refuses name why) = ⊥
IsDiagnosed (Shows t) = ⊥
IsDiagnosed (Originates o) = ⊥
IsDiagnosed (Provides p) = ⊥
IsDiagnosed (Reaches k n) = ⊥
IsDiagnosed (Chains v) = ⊥
IsDiagnosed (Diagnoses d) = Unit {0}
IsDiagnosed (Unheld d numbers) = Unit {0}
