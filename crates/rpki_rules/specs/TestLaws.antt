-- Laws of tests: what they ask together is what the rules ask; and what a locator's reason says of it.
use Rattle.std.specs.Prelude.{◌↔◌, ℕ, true, List}
use Rattle.rpki_rules.specs.certs_basics.Lists.{Each}
use Rattle.rpki_rules.specs.certs_extension.declared.forms.Role.{Role}
use Rattle.rpki_rules.specs.certs_extension.Profiles.{Profile}
use Rattle.rpki_rules.specs.rpki_bundle.declared.parts.Locator.{Locator}
use Rattle.rpki_rules.specs.Certs.{Key, Cert, CertText}
use Rattle.rpki_rules.specs.Objects.{Object, Sound}
use Rattle.rpki_rules.specs.Locators.{LocatorText, https_first}
use Rattle.rpki_rules.specs.Words.{Mem}
use Rattle.rpki_rules.specs.World.{World}
use Rattle.rpki_rules.specs.Points.{Link, Signed, IsFirstHeld, IsAnchorCert, Point, files, Unrevoked}
use Rattle.rpki_rules.specs.Chains.{last_of, Holds, Fits, Stands, IsChild}
use Rattle.rpki_rules.specs.Attests.{Payload, IsGoodOn}
use Rattle.rpki_rules.specs.Reasons.{cert_tests, PassesCert, content_tests, PassesContent, kinds, FitsKind}
use Rattle.rpki_rules.specs.LocatorReasons.{tests_of_anchors, PassesAnchor, LocatorReason, BadText, NoneHeld, NoCert, BadAnchor, LocatorFails}
use Rattle.rpki_rules.specs.PointReasons.{list_tests, PassesList, HasList, HasGoodManifest}
use Rattle.rpki_rules.specs.FileReasons.{revocation_tests, PassesRevocation, tests_of_cers, PassesCer, tests_of_objects, PassesObject, HasPayload}

-- A certificate's form, and what its issuer and the moment say.
abbrev pub CertTestsAreRules : Type 0
CertTestsAreRules = (w : World) (role : Role) (ca c : Cert) →
    Each (PassesCert w role ca c) (cert_tests role)
    ↔ (Profile w.digests true role c × Signed w c ca)

-- A signed object's content.
abbrev pub ContentTestsAreRules : Type 0
ContentTestsAreRules = (w : World) (o : Object) →
    Each (PassesContent w o) content_tests ↔ Sound w.digests w.good o

-- Revocation.
abbrev pub RevocationTestsAreRules : Type 0
RevocationTestsAreRules = (p : Point) (c : Cert) →
    Each (PassesRevocation p c) revocation_tests ↔ Unrevoked p c

-- An anchor's certificate.
abbrev pub AnchorTestsAreRules : Type 0
AnchorTestsAreRules = (w : World) (key : Key) (c : Cert) →
    Each (PassesAnchor w key c) tests_of_anchors ↔ IsAnchorCert w key c

-- What is claimed of each kind below a chain.
abbrev pub ClaimTestsAreRules : Type 0
ClaimTestsAreRules = (a : Link) (cs : List Link) (c : Cert) →
    Each (FitsKind (Holds a cs) c) kinds ↔ Fits (Holds a cs) c

-- The publication point of a chain.
abbrev pub PointTestsAreRules : Type 0
PointTestsAreRules = (w : World) (a : Link) (cs : List Link) (p : Point) →
    (HasGoodManifest w (last_of a cs).cert p.object p.manifest × HasList w p.object p.crl
    × Each (PassesList w (Holds a cs) (last_of a cs).cert p) list_tests) ↔ Stands w a cs p

-- An authority's certificate below a chain.
abbrev pub CerTestsAreRules : Type 0
CerTestsAreRules = (w : World) (a : Link) (cs : List Link) (p : Point) (c : Cert) →
    Each (PassesCer w (Holds a cs) (last_of a cs).cert p c) tests_of_cers
    ↔ IsChild w (Holds a cs) (last_of a cs).cert p c

-- A listed object that reads as what its extension says.
abbrev pub ObjectTestsAreRules : Type 0
ObjectTestsAreRules =
    (w : World) (a : Link) (cs : List Link) (p : Point) (uri : List ℕ) (o : Object) (x : Payload) →
    Mem (files (last_of a cs).cert p.manifest) uri → HasPayload w uri o x →
    Each (PassesObject w (Holds a cs) (last_of a cs).cert p o) (tests_of_objects x)
    ↔ IsGoodOn w a cs p uri x

-- What stands at the first held of a locator's URIs is no certificate of its anchor.
abbrev pub NoAnchorThere : World → Locator → Type 0
NoAnchorThere w l =
    (uris : List (List ℕ)) (key : Key) (uri octets : List ℕ) (c : Cert) →
    LocatorText l.text uris key → IsFirstHeld w (https_first uris) uri octets → CertText octets c →
    ¬ (IsAnchorCert w key c)

-- The text reads, and leads to no anchor.
abbrev pub LeadsNowhere : World → Locator → Type 0
LeadsNowhere w l =
    ((uris : List (List ℕ)) × (key : Key) × LocatorText l.text uris key) × NoAnchorThere w l

-- A text with a fault is none; with any other reason it reads, and leads to no anchor.
abbrev pub RefusesLocator : World → Locator → LocatorReason → Type 0
RefusesLocator w l (BadText e) =
    (uris : List (List ℕ)) (key : Key) → ¬ (LocatorText l.text uris key)
RefusesLocator w l NoneHeld = LeadsNowhere w l
RefusesLocator w l NoCert = LeadsNowhere w l
RefusesLocator w l (BadAnchor t) = LeadsNowhere w l

abbrev pub LocatorReasonsRefuse : Type 0
LocatorReasonsRefuse =
    (w : World) (l : Locator) (r : LocatorReason) → LocatorFails w l r → RefusesLocator w l r
