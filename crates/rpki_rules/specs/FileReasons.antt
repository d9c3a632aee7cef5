-- Why a file of a publication point that stands is refused: a `cer` of an authority (RFC 6487 7.2),
-- a `roa` or an `asa` (RFC 6488 3, RFC 9582 5, draft-ietf-sidrops-aspa-profile 4).
use Rattle.std.specs.Prelude.{◌≡◌, ◌≢◌, ◌≤◌, ◌⊎◌, ℕ, true, None, Some, List, [], ◌∷◌, ◌++◌, map}
use Rattle.rpki_rules.specs.certs_basics.Lists.{FirstFailing}
use Rattle.rpki_rules.specs.certs_basics.Uris.{lookup_key}
use Rattle.rpki_rules.specs.certs_extension.declared.forms.Role.TheVariants.{Ca, Ee}
use Rattle.rpki_rules.specs.resources_chain.Sets.{InRun}
use Rattle.rpki_rules.specs.resources_ip_prefix.Prefixes.{prefix_run}
use Rattle.rpki_rules.specs.declared.cause.Cause.{Cause}
use Rattle.rpki_rules.specs.declared.cause.Cause.TheVariants as cause
use Rattle.rpki_rules.specs.Certs.{Cert, IsOn}
use Rattle.rpki_rules.specs.Objects.{Object, RoaAddress}
use Rattle.rpki_rules.specs.Words.{Mem}
use Rattle.rpki_rules.specs.Kinds.{Kind, Ipv4, Ipv6, As}
use Rattle.rpki_rules.specs.World.{World}
use Rattle.rpki_rules.specs.Points.{Point}
use Rattle.rpki_rules.specs.Chains.{HasExtension, cer, roa, asa, CertAt}
use Rattle.rpki_rules.specs.Attests.{Payload, OfRoa, OfAspa, PayloadText, HoldsWith}
use Rattle.rpki_rules.specs.Refused.{IsIssued}
use Rattle.rpki_rules.specs.Reasons.{CertTest, cert_tests, PassesCert, ContentTest, content_tests, PassesContent, kinds, FitsKind}
-- A test of revocation: the certificate names a list, it is the point's, and the certificate isn't
-- on it (RFC 6487 7.2).
pub use Rattle.rpki_rules.specs.declared.reason.files.RevocationTest.{RevocationTest}
pub use Rattle.rpki_rules.specs.declared.reason.files.RevocationTest.TheVariants.{NamesList, SameList, NotRevoked}

-- The tests of revocation.
abbrev pub revocation_tests : List RevocationTest
revocation_tests = NamesList ∷ SameList ∷ NotRevoked ∷ []

-- The list at the URI is the one that the point's manifest names.
pub record IsListOf (p : Point) (uri : List ℕ) : Type 0 where
  pub point_uri : List ℕ
  pub point_uri_is : p.object.cert.tbs.crl_uri ≡ Some point_uri
  pub same : lookup_key uri ≡ lookup_key point_uri

abbrev pub PassesRevocation : Point → Cert → RevocationTest → Type 0
PassesRevocation p c NamesList = c.tbs.crl_uri ≢ None
PassesRevocation p c SameList = (uri : List ℕ) → c.tbs.crl_uri ≡ Some uri → IsListOf p uri
PassesRevocation p c NotRevoked = ¬ (IsOn p.crl c.tbs.serial)

-- In what follows `held` says what the chain holds, `on` its keys, and `count` how many
-- certificates it has.

-- A test of an authority's certificate: revocation, form and signature, and kind by kind its claim.
pub data CerTest : Type 0 where
  CerRevocation : RevocationTest → CerTest
  CerCert : CertTest → CerTest
  CerClaim : Kind → CerTest

abbrev pub tests_of_cers : List CerTest
tests_of_cers =
    map CerRevocation revocation_tests ++ (map CerCert (cert_tests Ca) ++ map CerClaim kinds)

abbrev pub PassesCer : World → (Kind → ℕ → Type 0) → Cert → Point → Cert → CerTest → Type 0
PassesCer w held ca p c (CerRevocation t) = PassesRevocation p c t
PassesCer w held ca p c (CerCert t) = PassesCert w Ca ca c t
PassesCer w held ca p c (CerClaim k) = FitsKind held c k

-- A test of an object: revocation, form and signature of its certificate; its content; kind by kind
-- the claim of its certificate; and that what it attests is held with that, each prefix or the
-- customer.
pub data ObjectTest : Type 0 where
  ObjectRevocation : RevocationTest → ObjectTest
  ObjectCert : CertTest → ObjectTest
  ObjectContent : ContentTest → ObjectTest
  ObjectClaim : Kind → ObjectTest
  PrefixHeld : Kind → RoaAddress → ObjectTest
  CustomerHeld : ℕ → ObjectTest

abbrev pub cover_tests : Payload → List ObjectTest
cover_tests (OfRoa r) = map (PrefixHeld Ipv4) r.v4 ++ map (PrefixHeld Ipv6) r.v6
cover_tests (OfAspa a) = CustomerHeld a.customer ∷ []

abbrev pub tests_of_objects : Payload → List ObjectTest
tests_of_objects x =
    map ObjectRevocation revocation_tests ++ (map ObjectCert (cert_tests Ee)
    ++ (map ObjectContent content_tests ++ (map ObjectClaim kinds ++ cover_tests x)))

abbrev pub PassesObject : World → (Kind → ℕ → Type 0) → Cert → Point → Object → ObjectTest → Type 0
PassesObject w held ca p o (ObjectRevocation t) = PassesRevocation p o.cert t
PassesObject w held ca p o (ObjectCert t) = PassesCert w Ee ca o.cert t
PassesObject w held ca p o (ObjectContent t) = PassesContent w o t
PassesObject w held ca p o (ObjectClaim k) = FitsKind held o.cert k
PassesObject w held ca p o (PrefixHeld k a) =
    (n : ℕ) → InRun (prefix_run a.addr a.len) n → HoldsWith held o.cert k n
PassesObject w held ca p o (CustomerHeld n) = HoldsWith held o.cert As n

-- The `cer` at the URI reads as this certificate, an authority's.
pub record HasAuthority (w : World) (uri : List ℕ) (c : Cert) : Type 0 where
  pub extension : HasExtension cer uri
  pub reads : CertAt w uri c
  pub authority : c.tbs.basic_ca ≡ Some true

-- The object with that lookup key reads as what its extension says.
pub record HasPayload (w : World) (uri : List ℕ) (o : Object) (x : Payload) : Type 0 where
  pub octets : List ℕ
  pub held : w.object uri ≡ Some octets
  pub reads : PayloadText w uri octets o x

-- A `cer` doesn't read; a test of an authority's fails; its key is on the chain; the chain has as
-- many certificates as it may have; a `roa` or `asa` doesn't read; a test of it fails.
pub data FileReason : Type 0 where
  BadCer : FileReason
  CerFails : CerTest → FileReason
  Loop : FileReason
  Depth : FileReason
  BadObject : FileReason
  ObjectFails : ObjectTest → FileReason

-- All before holds, and this doesn't.
abbrev pub FileFails : World → (Kind → ℕ → Type 0) → List (List ℕ) → ℕ → Cert → Point → List ℕ
    → FileReason → Type 0
FileFails w held on count ca p uri BadCer =
    HasExtension cer uri × ((c : Cert) → ¬ (CertAt w uri c))
FileFails w held on count ca p uri (CerFails t) =
    (c : Cert) × HasAuthority w uri c × FirstFailing (PassesCer w held ca p c) tests_of_cers t
FileFails w held on count ca p uri Loop =
    (c : Cert) × IsIssued w held ca p uri c × Mem on c.tbs.subject_key_identifier
FileFails w held on count ca p uri Depth =
    (c : Cert) × IsIssued w held ca p uri c × ¬ (Mem on c.tbs.subject_key_identifier)
    × (w.depth ≤ count)
FileFails w held on count ca p uri BadObject =
    (HasExtension roa uri ⊎ HasExtension asa uri)
    × ((o : Object) (x : Payload) → ¬ (HasPayload w uri o x))
FileFails w held on count ca p uri (ObjectFails t) =
    (o : Object) × (x : Payload) × HasPayload w uri o x
    × FirstFailing (PassesObject w held ca p o) (tests_of_objects x) t

-- The cause by which the line tells it.
abbrev pub file_cause : FileReason → Cause
file_cause BadCer = cause.Object
file_cause (CerFails t) = cause.Object
file_cause Loop = cause.Loop
file_cause Depth = cause.Depth
file_cause BadObject = cause.Object
file_cause (ObjectFails t) = cause.Object
