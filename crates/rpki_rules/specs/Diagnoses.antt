-- Diagnoses: what is wrong with what, and on which chain.
use Rattle.std.specs.Prelude.{◌≡◌, ◌⊎◌, ℕ, List, [], length}
use Rattle.std.specs.declared.cmp.Ordering.{Ordering}
use Rattle.std.specs.Ordering.{nat_cmp, ordering_then}
use Rattle.std.specs.Cmp.Lexicographic.{slice_cmp}
use Rattle.rpki_rules.specs.resources_chain.Sets.{Run}
use Rattle.rpki_rules.specs.rpki_bundle.declared.parts.Locator.{Locator}
use Rattle.rpki_rules.specs.declared.cause.Cause.{Cause}
use Rattle.rpki_rules.specs.declared.cause.Cause.TheVariants as cause
use Rattle.rpki_rules.specs.Certs.{Cert}
use Rattle.rpki_rules.specs.Objects.{Object, Manifest}
use Rattle.rpki_rules.specs.Words.{Mem}
use Rattle.rpki_rules.specs.Kinds.{Kind}
use Rattle.rpki_rules.specs.World.{World}
use Rattle.rpki_rules.specs.Points.{Link, Point, files}
use Rattle.rpki_rules.specs.Chains.{last_of, places, keys, Holds, StandsIn, CertAt, Accepted}
use Rattle.rpki_rules.specs.Attests.{Payload}
use Rattle.rpki_rules.specs.Lines.{Refusal}
use Rattle.rpki_rules.specs.Views.{PathValue}
use Rattle.rpki_rules.specs.Reasons.{AreUnheld}
use Rattle.rpki_rules.specs.LocatorReasons.{LocatorReason, LocatorFails, locator_cause}
use Rattle.rpki_rules.specs.PointReasons.{ListTest, ListAuthority, ListThisUpdate, ListNextUpdate, NotOnList, ListSignature, ManifestClaim, HasManifest, PointReason, NoManifest, BadManifest, ManifestFails, BadList, ListFails, PointFails}
use Rattle.rpki_rules.specs.FileReasons.{CerTest, CerRevocation, CerCert, CerClaim, ObjectTest, ObjectRevocation, ObjectCert, ObjectContent, ObjectClaim, PrefixHeld, CustomerHeld, HasPayload, FileReason, BadCer, CerFails, Loop, Depth, BadObject, ObjectFails, FileFails, file_cause}

-- Why a locator, a publication point or a file is refused.
pub data Reason : Type 0 where
  OfLocator : LocatorReason → Reason
  OfPoint : PointReason → Reason
  OfFile : FileReason → Reason

-- What is refused, by the locator's name, by the lookup key of the certificate whose point it is, or
-- by that of the file; on which chain, by the lookup keys from the anchor down, of a locator none;
-- and why.
pub record DiagnosisValue : Type 0 where
  pub name : List ℕ
  pub locator : List ℕ
  pub chain : List (List ℕ)
  pub reason : Reason

-- The cause by which the line of a refusal tells a reason.
abbrev pub cause_of : Reason → Cause
cause_of (OfLocator r) = locator_cause r
cause_of (OfPoint r) = cause.Point
cause_of (OfFile r) = file_cause r

-- The refusal that this is the diagnosis of.
abbrev pub refusal_in : DiagnosisValue → Refusal
refusal_in d = record { name = d.name; cause = cause_of d.reason }

-- By name, then by locator and chain, as octets.
abbrev pub diagnosis_cmp : DiagnosisValue → DiagnosisValue → Ordering
diagnosis_cmp d e =
    ordering_then (slice_cmp nat_cmp d.name e.name)
    (ordering_then (slice_cmp nat_cmp d.locator e.locator)
    (slice_cmp (slice_cmp nat_cmp) d.chain e.chain))

-- In what follows `held` says what the chain holds, `on` has its keys, and `path` its locator and its
-- lookup keys. Of a claim that isn't held these are the numbers that aren't, and of another test
-- there are none.
abbrev pub ListTells : World → (Kind → ℕ → Type 0) → Cert → ListTest → List Run → Type 0
ListTells w held ca ListAuthority numbers = numbers ≡ []
ListTells w held ca ListThisUpdate numbers = numbers ≡ []
ListTells w held ca ListNextUpdate numbers = numbers ≡ []
ListTells w held ca NotOnList numbers = numbers ≡ []
ListTells w held ca ListSignature numbers = numbers ≡ []
ListTells w held ca (ManifestClaim k) numbers =
    (o : Object) (m : Manifest) → HasManifest w ca o m → AreUnheld held o.cert k numbers

abbrev pub PointTells : World → (Kind → ℕ → Type 0) → Cert → PointReason → List Run → Type 0
PointTells w held ca NoManifest numbers = numbers ≡ []
PointTells w held ca BadManifest numbers = numbers ≡ []
PointTells w held ca (ManifestFails t) numbers = numbers ≡ []
PointTells w held ca BadList numbers = numbers ≡ []
PointTells w held ca (ListFails t) numbers = ListTells w held ca t numbers

abbrev pub CerTells : World → (Kind → ℕ → Type 0) → List ℕ → CerTest → List Run → Type 0
CerTells w held uri (CerRevocation t) numbers = numbers ≡ []
CerTells w held uri (CerCert t) numbers = numbers ≡ []
CerTells w held uri (CerClaim k) numbers =
    (c : Cert) → CertAt w uri c → AreUnheld held c k numbers

abbrev pub ObjectTells : World → (Kind → ℕ → Type 0) → List ℕ → ObjectTest → List Run → Type 0
ObjectTells w held uri (ObjectRevocation t) numbers = numbers ≡ []
ObjectTells w held uri (ObjectCert t) numbers = numbers ≡ []
ObjectTells w held uri (ObjectContent t) numbers = numbers ≡ []
ObjectTells w held uri (ObjectClaim k) numbers =
    (o : Object) (x : Payload) → HasPayload w uri o x → AreUnheld held o.cert k numbers
ObjectTells w held uri (PrefixHeld k a) numbers = numbers ≡ []
ObjectTells w held uri (CustomerHeld n) numbers = numbers ≡ []

abbrev pub FileTells : World → (Kind → ℕ → Type 0) → List ℕ → FileReason → List Run → Type 0
FileTells w held uri BadCer numbers = numbers ≡ []
FileTells w held uri (CerFails t) numbers = CerTells w held uri t numbers
FileTells w held uri Loop numbers = numbers ≡ []
FileTells w held uri Depth numbers = numbers ≡ []
FileTells w held uri BadObject numbers = numbers ≡ []
FileTells w held uri (ObjectFails t) numbers = ObjectTells w held uri t numbers

-- Of a chain, by the reason of what has that name.
abbrev pub on_chain : PathValue → List ℕ → Reason → DiagnosisValue
on_chain path name reason =
    record { name = name; locator = path.locator; chain = path.chain; reason = reason }

-- A locator's.
pub record DiagnosesLocator (w : World) (l : Locator) (d : DiagnosisValue) : Type 0 where
  pub reason : LocatorReason
  pub fails : LocatorFails w l reason
  pub is : d ≡ on_chain (record { locator = l.name; chain = [] }) l.name (OfLocator reason)

-- That of the point of the authority at the URI.
pub record DiagnosesPoint (w : World) (held : Kind → ℕ → Type 0) (path : PathValue) (uri : List ℕ)
    (ca : Cert) (d : DiagnosisValue) : Type 0 where
  pub reason : PointReason
  pub fails : PointFails w held ca reason
  pub is : d ≡ on_chain path uri (OfPoint reason)

-- That of a file of its point, which stands.
pub record DiagnosesFile (w : World) (held : Kind → ℕ → Type 0) (on : List (List ℕ))
    (path : PathValue) (ca : Cert) (d : DiagnosisValue) : Type 0 where
  pub point : Point
  pub stands : StandsIn w held ca point
  pub listed : Mem (files ca point.manifest) d.name
  pub reason : FileReason
  pub fails : FileFails w held on (length on) ca point d.name reason
  pub is : d ≡ on_chain path d.name (OfFile reason)

-- What is wrong at the end of a chain.
abbrev pub DiagnosesEnd : World → (Kind → ℕ → Type 0) → List (List ℕ) → PathValue → List ℕ → Cert
    → DiagnosisValue → Type 0
DiagnosesEnd w held on path uri ca d =
    DiagnosesPoint w held path uri ca d ⊎ DiagnosesFile w held on path ca d

-- What is wrong at the end of a chain that is accepted.
pub record DiagnosesChain (w : World) (d : DiagnosisValue) : Type 0 where
  pub name : List ℕ
  pub anchor : Link
  pub below : List Link
  pub accepted : Accepted w name anchor below
  pub ends : DiagnosesEnd w (Holds anchor below) (keys anchor below)
      (record { locator = name; chain = places anchor below })
      (last_of anchor below).uri (last_of anchor below).cert d

-- Something of the world is refused, and this is what is wrong with it.
abbrev pub IsDiagnosis : World → DiagnosisValue → Type 0
IsDiagnosis w d =
    ((l : Locator) × Mem w.locators l × DiagnosesLocator w l d) ⊎ DiagnosesChain w d

-- Of what is wrong at the end of a chain these are the numbers that a reason tells.
abbrev pub TellsEnd : World → (Kind → ℕ → Type 0) → List (List ℕ) → PathValue → List ℕ → Cert
    → DiagnosisValue → List Run → Type 0
TellsEnd w held on path uri ca d numbers =
    ((f : DiagnosesPoint w held path uri ca d) × PointTells w held ca f.reason numbers)
    ⊎ ((f : DiagnosesFile w held on path ca d) × FileTells w held d.name f.reason numbers)

pub record TellsChain (w : World) (d : DiagnosisValue) (numbers : List Run) : Type 0 where
  pub name : List ℕ
  pub anchor : Link
  pub below : List Link
  pub accepted : Accepted w name anchor below
  pub ends : TellsEnd w (Holds anchor below) (keys anchor below)
      (record { locator = name; chain = places anchor below })
      (last_of anchor below).uri (last_of anchor below).cert d numbers

-- Of what is wrong with something of the world these are the numbers that a reason tells: of a claim
-- that isn't held those that aren't, else none.
abbrev pub IsTold : World → DiagnosisValue → List Run → Type 0
IsTold w d numbers =
    ((l : Locator) × Mem w.locators l × DiagnosesLocator w l d × (numbers ≡ []))
    ⊎ TellsChain w d numbers
