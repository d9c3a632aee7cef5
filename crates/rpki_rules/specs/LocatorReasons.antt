-- Why a locator is refused (RFC 8630 2, 3): its text, where it leads to, or the first test of its
-- anchor that fails.
use Rattle.std.specs.Prelude.{◌≡◌, ◌≢◌, ℕ, None, List, ◌∷◌, ◌++◌, map}
use Rattle.rpki_rules.specs.certs_basics.Lists.{Each, FirstFailing}
use Rattle.rpki_rules.specs.certs_extension.declared.forms.Role.TheVariants.{Ta}
use Rattle.rpki_rules.specs.certs_extension.Profiles.{tests}
use Rattle.rpki_rules.specs.certs_extension.Verified.{anchor_tests}
use Rattle.rpki_rules.specs.rpki_bundle.declared.parts.Locator.{Locator}
use Rattle.rpki_rules.specs.declared.cause.Cause.{Cause}
use Rattle.rpki_rules.specs.declared.cause.Cause.TheVariants as cause
use Rattle.objects_payload.specs.declared.locator.error.ReadError.TheVariants.{Memory}
use Rattle.objects_payload.specs.Faults.{IsFault}
use Rattle.rpki_rules.specs.Certs.{Key, Cert, CertText, encoded}
use Rattle.rpki_rules.specs.Locators.{LocatorText, https_first}
use Rattle.rpki_rules.specs.World.{World, at}
use Rattle.rpki_rules.specs.Points.{IsFirstHeld}
use Rattle.rpki_rules.specs.Reasons.{Inspection, Verification, PassesCert}
-- A test of an anchor's certificate: that it has the locator's key, or one of the certificate as
-- its own issuer.
pub use Rattle.rpki_rules.specs.declared.reason.locators.AnchorTest.{AnchorTest}
pub use Rattle.rpki_rules.specs.declared.reason.locators.AnchorTest.TheVariants.{SameKey, AnchorCert}
-- The text has this fault; no URI is held; what is held there reads as no certificate; a test
-- fails.
pub use Rattle.rpki_rules.specs.declared.reason.locators.LocatorReason.{LocatorReason}
pub use Rattle.rpki_rules.specs.declared.reason.locators.LocatorReason.TheVariants.{BadText, NoneHeld, NoCert, BadAnchor}

-- The key first, then the form, and that it is valid, inherits nothing and signed itself.
abbrev pub tests_of_anchors : List AnchorTest
tests_of_anchors =
    SameKey ∷ map AnchorCert (map Inspection (tests Ta) ++ map Verification anchor_tests)

abbrev pub PassesAnchor : World → Key → Cert → AnchorTest → Type 0
PassesAnchor w key c SameKey = encoded c.tbs.key ≡ encoded key
PassesAnchor w key c (AnchorCert t) = PassesCert w Ta c c t

-- The text reads, and these octets are held at the first of its URIs at which there is an object,
-- https first.
pub record LeadsTo (w : World) (l : Locator) (key : Key) (octets : List ℕ) : Type 0 where
  pub uris : List (List ℕ)
  pub reads : LocatorText l.text uris key
  pub uri : List ℕ
  pub held : IsFirstHeld w (https_first uris) uri octets

-- All before holds, and this doesn't. Lack of memory is no fault of a text.
abbrev pub LocatorFails : World → Locator → LocatorReason → Type 0
LocatorFails w l (BadText e) = (e ≢ Memory) × IsFault e l.text
LocatorFails w l NoneHeld =
    (uris : List (List ℕ)) × (key : Key) × LocatorText l.text uris key
    × Each (λ u. at w u ≡ None) (https_first uris)
LocatorFails w l NoCert =
    (key : Key) × (octets : List ℕ) × LeadsTo w l key octets × ((c : Cert) → ¬ (CertText octets c))
LocatorFails w l (BadAnchor t) =
    (key : Key) × (octets : List ℕ) × (c : Cert) × LeadsTo w l key octets × CertText octets c
    × FirstFailing (PassesAnchor w key c) tests_of_anchors t

-- A text that is none is refused as `tal`, all else as `anchor`.
abbrev pub locator_cause : LocatorReason → Cause
locator_cause (BadText e) = cause.Tal
locator_cause NoneHeld = cause.Anchor
locator_cause NoCert = cause.Anchor
locator_cause (BadAnchor t) = cause.Anchor
