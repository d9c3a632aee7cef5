-- The trust anchor of one locator (RFC 8630 3).
use Rattle.std.specs.Prelude.{ℕ, List}
use Rattle.rpki_rules.specs.Certs.{CertText, Key}
use Rattle.rpki_rules.specs.Points.{IsAnchorCert, Link}
use Rattle.rpki_rules.specs.World.{World}
use Rattle.rpki_standing.specs.rpki_bundle.declared.parts.Locator.{Locator}
use Rattle.rpki_standing.specs.Lookups.{HoldsAt}

-- The locator leads to the object with this lookup key, which reads as this certificate, one of a trust anchor with the
-- locator's key.
pub record IsAnchorOf (w : World) (l : Locator) (a : Link) : Type 0 where
  pub key : Key
  pub octets : List ℕ
  pub leads : HoldsAt w l key a.uri octets
  pub cert : CertText octets a.cert
  pub is_anchor : IsAnchorCert w key a.cert
