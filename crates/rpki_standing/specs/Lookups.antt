-- What a trust anchor locator leads to, the anchor's certificate apart (RFC 8630 3).
use Rattle.std.specs.Prelude.{◌≢◌, ℕ, List, Result, Ok, Err}
use Rattle.objects_payload.specs.Faults.{IsFault}
use Rattle.objects_payload.specs.Tals.{TalValue}
use Rattle.objects_payload.specs.declared.locator.error.ReadError.{ReadError}
use Rattle.objects_payload.specs.declared.locator.error.ReadError.TheVariants.{Memory}
use Rattle.rpki_standing.specs.rpki_bundle.declared.parts.Locator.{Locator}
use Rattle.rpki_rules.specs.Certs.{Cert, CertText, Key}
use Rattle.rpki_rules.specs.Locators.{LocatorText, https_first}
use Rattle.rpki_rules.specs.declared.reason.locators.LocatorReason.TheVariants.{BadText, NoneHeld}
use Rattle.rpki_rules.specs.LocatorReasons.{LocatorFails}
use Rattle.rpki_rules.specs.Chains.{CertAt}
use Rattle.rpki_rules.specs.Points.{IsFirstHeld}
use Rattle.rpki_rules.specs.World.{World}
use Rattle.rpki_standing.specs.declared.anchors.lookup.LocatorLookup.{LocatorLookup}
use Rattle.rpki_standing.specs.declared.anchors.lookup.LocatorLookup.TheVariants as To

-- The text is no locator's (RFC 8630 2.2).
abbrev pub IsNoLocator : List ℕ → Type 0
IsNoLocator text = (uris : List (List ℕ)) (key : Key) → ¬ (LocatorText text uris key)

-- The text is this locator's, or it has this fault, which isn't lack of memory.
abbrev pub ReadsLocator : List ℕ → Result TalValue ReadError → Type 0
ReadsLocator text (Ok tal) = LocatorText text tal.uris tal.key
ReadsLocator text (Err e) = (e ≢ Memory) × IsFault e text

-- No certificate stands in front of the octets.
abbrev pub IsNoCert : List ℕ → Type 0
IsNoCert octets = (c : Cert) → ¬ (CertText octets c)

-- There is no object with that lookup key, or it reads as no certificate.
abbrev pub NoCertAt : World → List ℕ → Type 0
NoCertAt w uri = (c : Cert) → ¬ (CertAt w uri c)

-- The locator has this key, and of its URIs, https URIs first, the first at which there is an object has this lookup
-- key, and the object has these octets.
pub record HoldsAt (w : World) (l : Locator) (key : Key) (uri octets : List ℕ) : Type 0 where
  pub uris : List (List ℕ)
  pub reads : LocatorText l.text uris key
  pub held : IsFirstHeld w (https_first uris) uri octets

-- What the locator leads to.
abbrev pub IsLocatorLookup : World → Locator → LocatorLookup → Type 0
IsLocatorLookup w l (To.Unreadable fault) = LocatorFails w l (BadText fault)
IsLocatorLookup w l To.Nowhere = LocatorFails w l NoneHeld
IsLocatorLookup w l (To.Held object tal) = HoldsAt w l tal.key object.now.uri object.now.octets
