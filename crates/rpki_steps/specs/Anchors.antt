-- Certificates of trust anchors, by the octets that they are, and what locators lead to (RFC 8630 3).
use Rattle.std.specs.Prelude.{◌≡◌, ℕ, List, Result, Ok, Err, String}
use Rattle.std.specs.declared.alloc.Global.{Global}
use Rattle.std.specs.Str.Lossy.{utf8_lossy}
use Rattle.std.specs.String.{string_bytes}
use Rattle.rpki_steps.specs.Holders.{cert_of, sets_of}
use Rattle.rpki_steps.specs.certs_basics.Lists.{FirstFailing}
use Rattle.rpki_steps.specs.certs_verify.Holders.{ResourceCertValue}
use Rattle.rpki_steps.specs.declared.anchor.locator.TrustAnchor.{TrustAnchor}
use Rattle.rpki_rules.specs.Certs.{Cert, CertText, Key}
use Rattle.rpki_rules.specs.declared.reason.locators.LocatorReason.TheVariants.{BadText, NoneHeld, NoCert, BadAnchor}
use Rattle.rpki_rules.specs.LocatorReasons.{LocatorFails, PassesAnchor, tests_of_anchors}
use Rattle.rpki_rules.specs.declared.reason.locators.LocatorReason.{LocatorReason}
use Rattle.rpki_rules.specs.Points.{IsAnchorCert}
use Rattle.rpki_rules.specs.World.{World}
use Rattle.rpki_standing.specs.Lookups.{IsNoCert}
use Rattle.rpki_standing.specs.rpki_bundle.declared.parts.Locator.{Locator}
use Rattle.rpki_walk.specs.Repository.{HasListed, LeadsTo}

-- The octets are the certificate, it is one of a trust anchor with that key, and it was verified: with what it lists, by the
-- locator of that name.
pub record IsAnchorIn (w : World) (key : Key) (tal : String Global) (octets : List ℕ)
    (r : ResourceCertValue) : Type 0 where
  pub reads : CertText octets (cert_of r)
  pub anchor : IsAnchorCert w key (cert_of r)
  pub holds : HasListed (cert_of r) (sets_of r)
  pub name : r.tal ≡ tal

-- The octets are no certificate, or the first test that theirs fails.
abbrev pub FailsIn : World → Key → List ℕ → LocatorReason → Type 0
FailsIn w key octets (BadText e) = ⊥
FailsIn w key octets NoneHeld = ⊥
FailsIn w key octets NoCert = IsNoCert octets
FailsIn w key octets (BadAnchor t) =
    (c : Cert) × CertText octets c × FirstFailing (PassesAnchor w key c) tests_of_anchors t

-- The certificate as it was verified, or why the octets are none of a trust anchor with that key.
abbrev pub FindsAnchorIn : World → Key → String Global → List ℕ
    → Result ResourceCertValue LocatorReason → Type 0
FindsAnchorIn w key tal octets (Ok r) = IsAnchorIn w key tal octets r
FindsAnchorIn w key tal octets (Err r) = FailsIn w key octets r

-- The locator leads to the anchor, which holds what it lists, and was verified by the locator of that name: as UTF-8, in which
-- all names of a bundle are.
pub record IsFoundThere (w : World) (l : Locator) (a : TrustAnchor) : Type 0 where
  pub leads : LeadsTo w l (record { uri = a.uri; cert = cert_of a.authority })
  pub holds : HasListed (cert_of a.authority) (sets_of a.authority)
  pub name : string_bytes a.authority.tal ≡ utf8_lossy l.name

-- The trust anchor to which the locator leads, or why it leads to none.
abbrev pub JudgesLocator : World → Locator → Result TrustAnchor LocatorReason → Type 0
JudgesLocator w l (Ok a) = IsFoundThere w l a
JudgesLocator w l (Err r) = LocatorFails w l r
