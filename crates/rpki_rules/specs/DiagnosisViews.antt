-- What contracts see of a diagnosis, and its order.
use Rattle.std.specs.Prelude.{◌≡◌, ◌↔◌, Bool, List, [], map, refl}
use Rattle.std.specs.declared.cmp.Ordering.{Ordering}
use Rattle.std.specs.Ordering.{eq_by_cmp}
use Rattle.std.specs.Cmp.{IsTotalOrder, IsEquivalence}
use Rattle.std.specs.List.Sorted.{IsStrictlySortedBy}
use Rattle.std.proofs.lemmas.Cmp.{on_total, then_total, lists_total, nat_list_cmp_total, eq_by_cmp_equiv}
use Rattle.rpki_rules.specs.resources_chain.Sets.{Run}
use Rattle.rpki_rules.specs.Words.{Mem}
use Rattle.rpki_rules.specs.World.{World}
use Rattle.rpki_rules.specs.Diagnoses.{Reason, OfLocator, OfPoint, OfFile, DiagnosisValue, diagnosis_cmp, IsDiagnosis, IsTold}
use Rattle.rpki_rules.specs.ReasonViews.{runs_claimed, point_reason_of, file_reason_of}
use Rattle.rpki_rules.specs.declared.reason.points.ListTest.{ListTest as CodeListTest}
use Rattle.rpki_rules.specs.declared.reason.points.ListTest.TheVariants as crl
use Rattle.rpki_rules.specs.declared.reason.points.PointReason.{PointReason as CodePointReason}
use Rattle.rpki_rules.specs.declared.reason.points.PointReason.TheVariants as point
use Rattle.rpki_rules.specs.declared.reason.files.CerTest.{CerTest as CodeCerTest}
use Rattle.rpki_rules.specs.declared.reason.files.CerTest.TheVariants as cer
use Rattle.rpki_rules.specs.declared.reason.files.ObjectTest.{ObjectTest as CodeObjectTest}
use Rattle.rpki_rules.specs.declared.reason.files.ObjectTest.TheVariants as object
use Rattle.rpki_rules.specs.declared.reason.files.FileReason.{FileReason as CodeFileReason}
use Rattle.rpki_rules.specs.declared.reason.files.FileReason.TheVariants as file
use Rattle.rpki_rules.specs.declared.reason.diagnosis.Reason.{Reason as CodeReason}
use Rattle.rpki_rules.specs.declared.reason.diagnosis.Reason.TheVariants as reason
use Rattle.rpki_rules.specs.declared.reason.diagnosis.Diagnosis.{Diagnosis}

-- The numbers that a reason tells: of a claim those that aren't held, else none.
abbrev pub list_numbers : CodeListTest → List Run
list_numbers crl.ListAuthority = []
list_numbers crl.ListThisUpdate = []
list_numbers crl.ListNextUpdate = []
list_numbers crl.NotOnList = []
list_numbers crl.ListSignature = []
list_numbers (crl.ManifestClaim x) = runs_claimed x

abbrev pub point_numbers : CodePointReason → List Run
point_numbers point.NoManifest = []
point_numbers point.BadManifest = []
point_numbers (point.ManifestFails t) = []
point_numbers point.BadList = []
point_numbers (point.ListFails t) = list_numbers t

abbrev pub cer_numbers : CodeCerTest → List Run
cer_numbers (cer.CerRevocation t) = []
cer_numbers (cer.CerCert t) = []
cer_numbers (cer.CerClaim x) = runs_claimed x

abbrev pub object_numbers : CodeObjectTest → List Run
object_numbers (object.ObjectRevocation t) = []
object_numbers (object.ObjectCert t) = []
object_numbers (object.ObjectContent t) = []
object_numbers (object.ObjectClaim x) = runs_claimed x
object_numbers (object.PrefixHeld family a) = []
object_numbers (object.CustomerHeld asn) = []

abbrev pub file_numbers : CodeFileReason → List Run
file_numbers file.BadCer = []
file_numbers (file.CerFails t) = cer_numbers t
file_numbers file.Loop = []
file_numbers file.Depth = []
file_numbers file.BadObject = []
file_numbers (file.ObjectFails t) = object_numbers t

abbrev pub reason_of : CodeReason → Reason
reason_of (reason.Locator r) = OfLocator r
reason_of (reason.Point r) = OfPoint (point_reason_of r)
reason_of (reason.File r) = OfFile (file_reason_of r)

abbrev pub numbers_of : CodeReason → List Run
numbers_of (reason.Locator r) = []
numbers_of (reason.Point r) = point_numbers r
numbers_of (reason.File r) = file_numbers r

abbrev pub diagnosis_of : Diagnosis → DiagnosisValue
diagnosis_of d = record {
  name = d.name;
  locator = d.path.value.locator;
  chain = d.path.value.chain.items;
  reason = reason_of d.reason;
}

-- The numbers that it tells.
abbrev pub unheld_of : Diagnosis → List Run
unheld_of d = numbers_of d.reason

abbrev pub diagnoses_cmp : Diagnosis → Diagnosis → Ordering
diagnoses_cmp d e = diagnosis_cmp (diagnosis_of d) (diagnosis_of e)

abbrev pub diagnoses_eq : Diagnosis → Diagnosis → Bool
diagnoses_eq = eq_by_cmp diagnoses_cmp

pub diagnoses_total : IsTotalOrder diagnoses_cmp
diagnoses_total =
    then_total (on_total (λ (d : Diagnosis). d.name) nat_list_cmp_total)
    (then_total (on_total (λ (d : Diagnosis). d.path.value.locator) nat_list_cmp_total)
    (on_total (λ (d : Diagnosis). d.path.value.chain.items) (lists_total nat_list_cmp_total)))

pub diagnoses_equiv : IsEquivalence diagnoses_eq
diagnoses_equiv = eq_by_cmp_equiv diagnoses_total

pub diagnoses_ties : (d e : Diagnosis) → diagnoses_eq d e ≡ eq_by_cmp diagnoses_cmp d e
diagnoses_ties d e = refl

-- Exactly the diagnoses of the world, each once, in order, and each tells just the numbers that
-- aren't held.
pub record AreDiagnoses (w : World) (ds : List Diagnosis) : Type 0 where
  pub ascend : IsStrictlySortedBy diagnosis_cmp (map diagnosis_of ds)
  pub exact : (d : DiagnosisValue) → Mem (map diagnosis_of ds) d ↔ IsDiagnosis w d
  pub told : (d : Diagnosis) → Mem ds d → IsTold w (diagnosis_of d) (unheld_of d)
