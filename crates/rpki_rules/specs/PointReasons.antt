-- Why a publication point is refused (RFC 9286 6): its manifest, the files, the revocation list,
-- and last the claim of the manifest's certificate.
use Rattle.std.specs.Prelude.{◌≡◌, ◌≢◌, ◌≤◌, ℕ, None, Some, List, [], ◌∷◌, ◌++◌, map, flat_map, true}
use Rattle.rpki_rules.specs.certs_basics.Lists.{Each, FirstFailing}
use Rattle.rpki_rules.specs.certs_basics.Uris.{lookup_key}
use Rattle.rpki_rules.specs.certs_basics.Paths.{join}
use Rattle.rpki_rules.specs.certs_extension.declared.forms.Role.TheVariants.{Ee}
use Rattle.rpki_rules.specs.Certs.{Cert, Crl, CrlText, IsOn}
use Rattle.rpki_rules.specs.Objects.{Object, File, Manifest, ManifestText}
use Rattle.rpki_rules.specs.Words.{Mem, NoRepeat}
use Rattle.rpki_rules.specs.Kinds.{Kind}
use Rattle.rpki_rules.specs.World.{World, at}
use Rattle.rpki_rules.specs.Points.{Point, files, IsHeld}
use Rattle.rpki_rules.specs.Reasons.{CertTest, cert_tests, PassesCert, ContentTest, content_tests, PassesContent, kinds, FitsKind}

-- A test of a manifest that reads: its updates, its certificate, its content; the folder of the
-- files, that their names differ, that each is held, with its hash; that its certificate names a
-- revocation list, and that list is a file.
pub data ManifestTest : Type 0 where
  ThisUpdate : ManifestTest
  NextUpdate : ManifestTest
  ManifestCert : CertTest → ManifestTest
  ManifestContent : ContentTest → ManifestTest
  Folder : ManifestTest
  NamesDiffer : ManifestTest
  FileHeld : File → ManifestTest
  FileHash : File → ManifestTest
  ListNamed : ManifestTest
  ListListed : ManifestTest

abbrev pub file_tests : File → List ManifestTest
file_tests f = FileHeld f ∷ FileHash f ∷ []

-- In their order (RFC 9286 6.2 to 6.5, RFC 6487 5).
abbrev pub manifest_tests : Manifest → List ManifestTest
manifest_tests m =
    ThisUpdate ∷ NextUpdate ∷ (map ManifestCert (cert_tests Ee)
    ++ (map ManifestContent content_tests
    ++ (Folder ∷ NamesDiffer ∷ (flat_map file_tests m.files ++ ListNamed ∷ ListListed ∷ []))))

-- The authority's repository is this folder.
abbrev pub IsFolder : Cert → List ℕ → Type 0
IsFolder ca folder = ca.tbs.access.repository ≡ Some folder

abbrev pub PassesManifest : World → Cert → Object → Manifest → ManifestTest → Type 0
PassesManifest w ca o m ThisUpdate = m.this_update ≤ w.moment
PassesManifest w ca o m NextUpdate = w.moment ≤ m.next_update
PassesManifest w ca o m (ManifestCert t) = PassesCert w Ee ca o.cert t
PassesManifest w ca o m (ManifestContent t) = PassesContent w o t
PassesManifest w ca o m Folder = ca.tbs.access.repository ≢ None
PassesManifest w ca o m NamesDiffer = NoRepeat (map (λ f. f.name) m.files)
PassesManifest w ca o m (FileHeld f) =
    (folder : List ℕ) → IsFolder ca folder → at w (join folder f.name) ≢ None
PassesManifest w ca o m (FileHash f) = (folder : List ℕ) → IsFolder ca folder → IsHeld w folder f
PassesManifest w ca o m ListNamed = o.cert.tbs.crl_uri ≢ None
PassesManifest w ca o m ListListed =
    (uri : List ℕ) → o.cert.tbs.crl_uri ≡ Some uri → Mem (files ca m) (lookup_key uri)

-- A test of the revocation list (RFC 5280 5.2.1, 5.1.2.4, 5.1.2.5; RFC 6487 5): whose it is, its
-- updates, that the manifest's certificate isn't on it, its signature; and last, kind by kind, the
-- claim of that certificate.
pub data ListTest : Type 0 where
  ListAuthority : ListTest
  ListThisUpdate : ListTest
  ListNextUpdate : ListTest
  NotOnList : ListTest
  ListSignature : ListTest
  ManifestClaim : Kind → ListTest

abbrev pub list_tests : List ListTest
list_tests =
    ListAuthority ∷ ListThisUpdate ∷ ListNextUpdate ∷ NotOnList ∷ ListSignature
    ∷ map ManifestClaim kinds

-- `held` says what the chain holds.
abbrev pub PassesList : World → (Kind → ℕ → Type 0) → Cert → Point → ListTest → Type 0
PassesList w held ca p ListAuthority =
    p.crl.tbs.authority_key_identifier ≡ ca.tbs.subject_key_identifier
PassesList w held ca p ListThisUpdate = p.crl.tbs.this_update ≤ w.moment
PassesList w held ca p ListNextUpdate = w.moment ≤ p.crl.tbs.next_update
PassesList w held ca p NotOnList = ¬ (IsOn p.crl p.object.cert.tbs.serial)
PassesList w held ca p ListSignature =
    w.good ca.tbs.key p.crl.signed.has_null p.crl.signed.message p.crl.signed.signature ≡ true
PassesList w held ca p (ManifestClaim k) = FitsKind held p.object.cert k

-- These octets are held at the authority's manifest URI.
pub record HasOctets (w : World) (ca : Cert) (octets : List ℕ) : Type 0 where
  pub uri : List ℕ
  pub uri_is : ca.tbs.access.manifest ≡ Some uri
  pub held : at w uri ≡ Some octets

-- They read as this manifest.
pub record HasManifest (w : World) (ca : Cert) (o : Object) (m : Manifest) : Type 0 where
  pub octets : List ℕ
  pub has : HasOctets w ca octets
  pub reads : ManifestText w.strict octets o m

-- The list that the manifest's certificate names reads as this one.
pub record HasList (w : World) (o : Object) (crl : Crl) : Type 0 where
  pub uri : List ℕ
  pub uri_is : o.cert.tbs.crl_uri ≡ Some uri
  pub octets : List ℕ
  pub held : at w uri ≡ Some octets
  pub reads : CrlText octets crl

-- A manifest reads there that passes all tests.
pub record HasGoodManifest (w : World) (ca : Cert) (o : Object) (m : Manifest) : Type 0 where
  pub has : HasManifest w ca o m
  pub passes : Each (PassesManifest w ca o m) (manifest_tests m)

-- No manifest is held; it doesn't read; a test of it fails; the list doesn't read; a test of that
-- fails.
pub data PointReason : Type 0 where
  NoManifest : PointReason
  BadManifest : PointReason
  ManifestFails : ManifestTest → PointReason
  BadList : PointReason
  ListFails : ListTest → PointReason

-- All before holds, and this doesn't.
abbrev pub PointFails : World → (Kind → ℕ → Type 0) → Cert → PointReason → Type 0
PointFails w held ca NoManifest = (octets : List ℕ) → ¬ (HasOctets w ca octets)
PointFails w held ca BadManifest =
    (octets : List ℕ) × HasOctets w ca octets
    × ((o : Object) (m : Manifest) → ¬ (ManifestText w.strict octets o m))
PointFails w held ca (ManifestFails t) =
    (o : Object) × (m : Manifest) × HasManifest w ca o m
    × FirstFailing (PassesManifest w ca o m) (manifest_tests m) t
PointFails w held ca BadList =
    (o : Object) × (m : Manifest) × HasGoodManifest w ca o m × ((crl : Crl) → ¬ (HasList w o crl))
PointFails w held ca (ListFails t) =
    (p : Point) × HasGoodManifest w ca p.object p.manifest × HasList w p.object p.crl
    × FirstFailing (PassesList w held ca p) list_tests t
