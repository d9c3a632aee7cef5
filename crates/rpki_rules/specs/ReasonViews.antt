-- What contracts see of reasons, and of claims the numbers that aren't held.
use Rattle.std.specs.Prelude.{ℕ, List}
use Rattle.rpki_rules.specs.resources_chain.Sets.{Run}
use Rattle.certs_x509.specs.declared.errors.verification.Overclaimed.{Overclaimed}
use Rattle.certs_x509.specs.declared.errors.verification.Overclaimed.TheVariants as outside
use Rattle.objects_payload.specs.Addresses.{roa_address}
use Rattle.rpki_rules.specs.Certs.{Cert}
use Rattle.rpki_rules.specs.Objects.{Object, File, Manifest}
use Rattle.rpki_rules.specs.Kinds.{Kind, Ipv4, Ipv6, As}
use Rattle.rpki_rules.specs.World.{World}
use Rattle.rpki_rules.specs.Chains.{CertAt}
use Rattle.rpki_rules.specs.Attests.{Payload}
use Rattle.rpki_rules.specs.Views.{kind_of}
use Rattle.rpki_rules.specs.Reasons.{AreUnheld}
use Rattle.rpki_rules.specs.PointReasons.{ManifestTest, ThisUpdate, NextUpdate, ManifestCert, ManifestContent, Folder, NamesDiffer, FileHeld, FileHash, ListNamed, ListListed, ListTest, ListAuthority, ListThisUpdate, ListNextUpdate, NotOnList, ListSignature, ManifestClaim, HasManifest, PointReason, NoManifest, BadManifest, ManifestFails, BadList, ListFails}
use Rattle.rpki_rules.specs.FileReasons.{CerTest, CerRevocation, CerCert, CerClaim, ObjectTest, ObjectRevocation, ObjectCert, ObjectContent, ObjectClaim, PrefixHeld, CustomerHeld, HasPayload, FileReason, BadCer, CerFails, Loop, Depth, BadObject, ObjectFails}
use Rattle.rpki_rules.specs.declared.reason.points.ListedFile.{ListedFile}
use Rattle.rpki_rules.specs.declared.reason.points.ManifestTest.{ManifestTest as CodeManifestTest}
use Rattle.rpki_rules.specs.declared.reason.points.ManifestTest.TheVariants as manifest
use Rattle.rpki_rules.specs.declared.reason.points.ListTest.{ListTest as CodeListTest}
use Rattle.rpki_rules.specs.declared.reason.points.ListTest.TheVariants as crl
use Rattle.rpki_rules.specs.declared.reason.points.PointReason.{PointReason as CodePointReason}
use Rattle.rpki_rules.specs.declared.reason.points.PointReason.TheVariants as point
use Rattle.rpki_rules.specs.declared.reason.files.CerTest.{CerTest as CodeCerTest}
use Rattle.rpki_rules.specs.declared.reason.files.CerTest.TheVariants as cer
use Rattle.rpki_rules.specs.declared.reason.files.ObjectTest.{ObjectTest as CodeObjectTest}
use Rattle.rpki_rules.specs.declared.reason.files.ObjectTest.TheVariants as object
use Rattle.rpki_rules.specs.declared.reason.files.FileReason.{FileReason as CodeFileReason}
use Rattle.rpki_rules.specs.declared.reason.files.FileReason.TheVariants as file

-- The kind of which more is claimed than is held, and the numbers that aren't held.
abbrev pub kind_claimed : Overclaimed → Kind
kind_claimed (outside.V4 numbers) = Ipv4
kind_claimed (outside.V6 numbers) = Ipv6
kind_claimed (outside.Asn numbers) = As

abbrev pub runs_claimed : Overclaimed → List Run
runs_claimed (outside.V4 numbers) = numbers.0
runs_claimed (outside.V6 numbers) = numbers.0
runs_claimed (outside.Asn numbers) = numbers

abbrev pub file_of : ListedFile → File
file_of f = record { name = f.name; hash = f.hash }

abbrev pub manifest_test_of : CodeManifestTest → ManifestTest
manifest_test_of manifest.ThisUpdate = ThisUpdate
manifest_test_of manifest.NextUpdate = NextUpdate
manifest_test_of (manifest.ManifestCert t) = ManifestCert t
manifest_test_of (manifest.ManifestContent t) = ManifestContent t
manifest_test_of manifest.Folder = Folder
manifest_test_of manifest.NamesDiffer = NamesDiffer
manifest_test_of (manifest.FileHeld f) = FileHeld (file_of f)
manifest_test_of (manifest.FileHash f) = FileHash (file_of f)
manifest_test_of manifest.ListNamed = ListNamed
manifest_test_of manifest.ListListed = ListListed

abbrev pub list_test_of : CodeListTest → ListTest
list_test_of crl.ListAuthority = ListAuthority
list_test_of crl.ListThisUpdate = ListThisUpdate
list_test_of crl.ListNextUpdate = ListNextUpdate
list_test_of crl.NotOnList = NotOnList
list_test_of crl.ListSignature = ListSignature
list_test_of (crl.ManifestClaim x) = ManifestClaim (kind_claimed x)

abbrev pub point_reason_of : CodePointReason → PointReason
point_reason_of point.NoManifest = NoManifest
point_reason_of point.BadManifest = BadManifest
point_reason_of (point.ManifestFails t) = ManifestFails (manifest_test_of t)
point_reason_of point.BadList = BadList
point_reason_of (point.ListFails t) = ListFails (list_test_of t)

abbrev pub cer_test_of : CodeCerTest → CerTest
cer_test_of (cer.CerRevocation t) = CerRevocation t
cer_test_of (cer.CerCert t) = CerCert t
cer_test_of (cer.CerClaim x) = CerClaim (kind_claimed x)

abbrev pub object_test_of : CodeObjectTest → ObjectTest
object_test_of (object.ObjectRevocation t) = ObjectRevocation t
object_test_of (object.ObjectCert t) = ObjectCert t
object_test_of (object.ObjectContent t) = ObjectContent t
object_test_of (object.ObjectClaim x) = ObjectClaim (kind_claimed x)
object_test_of (object.PrefixHeld family a) = PrefixHeld (kind_of family) (roa_address a)
object_test_of (object.CustomerHeld asn) = CustomerHeld asn.value

abbrev pub file_reason_of : CodeFileReason → FileReason
file_reason_of file.BadCer = BadCer
file_reason_of (file.CerFails t) = CerFails (cer_test_of t)
file_reason_of file.Loop = Loop
file_reason_of file.Depth = Depth
file_reason_of file.BadObject = BadObject
file_reason_of (file.ObjectFails t) = ObjectFails (object_test_of t)

-- In what follows `held` says what the chain holds: of a claim that isn't held these are the numbers
-- that aren't.

-- Of the manifest's certificate, whichever manifest reads there.
abbrev pub ListUnheld : World → (Kind → ℕ → Type 0) → Cert → CodeListTest → Type 0
ListUnheld w held ca crl.ListAuthority = Unit {0}
ListUnheld w held ca crl.ListThisUpdate = Unit {0}
ListUnheld w held ca crl.ListNextUpdate = Unit {0}
ListUnheld w held ca crl.NotOnList = Unit {0}
ListUnheld w held ca crl.ListSignature = Unit {0}
ListUnheld w held ca (crl.ManifestClaim x) =
    (o : Object) (m : Manifest) → HasManifest w ca o m →
    AreUnheld held o.cert (kind_claimed x) (runs_claimed x)

abbrev pub PointUnheld : World → (Kind → ℕ → Type 0) → Cert → CodePointReason → Type 0
PointUnheld w held ca point.NoManifest = Unit {0}
PointUnheld w held ca point.BadManifest = Unit {0}
PointUnheld w held ca (point.ManifestFails t) = Unit {0}
PointUnheld w held ca point.BadList = Unit {0}
PointUnheld w held ca (point.ListFails t) = ListUnheld w held ca t

-- Of each certificate at the URI.
abbrev pub CerUnheld : World → (Kind → ℕ → Type 0) → List ℕ → CodeCerTest → Type 0
CerUnheld w held uri (cer.CerRevocation t) = Unit {0}
CerUnheld w held uri (cer.CerCert t) = Unit {0}
CerUnheld w held uri (cer.CerClaim x) =
    (c : Cert) → CertAt w uri c → AreUnheld held c (kind_claimed x) (runs_claimed x)

-- Of the certificate of each object at the URI.
abbrev pub ObjectUnheld : World → (Kind → ℕ → Type 0) → List ℕ → CodeObjectTest → Type 0
ObjectUnheld w held uri (object.ObjectRevocation t) = Unit {0}
ObjectUnheld w held uri (object.ObjectCert t) = Unit {0}
ObjectUnheld w held uri (object.ObjectContent t) = Unit {0}
ObjectUnheld w held uri (object.ObjectClaim x) =
    (o : Object) (y : Payload) → HasPayload w uri o y →
    AreUnheld held o.cert (kind_claimed x) (runs_claimed x)
ObjectUnheld w held uri (object.PrefixHeld family a) = Unit {0}
ObjectUnheld w held uri (object.CustomerHeld asn) = Unit {0}

abbrev pub FileUnheld : World → (Kind → ℕ → Type 0) → List ℕ → CodeFileReason → Type 0
FileUnheld w held uri file.BadCer = Unit {0}
FileUnheld w held uri (file.CerFails t) = CerUnheld w held uri t
FileUnheld w held uri file.Loop = Unit {0}
FileUnheld w held uri file.Depth = Unit {0}
FileUnheld w held uri file.BadObject = Unit {0}
FileUnheld w held uri (file.ObjectFails t) = ObjectUnheld w held uri t
