-- What makes a certificate a trust anchor's (RFC 8630 2.3, 3).
use Rattle.std.specs.Prelude.{◌≡◌, Result, Ok, Err, String}
use Rattle.std.specs.declared.alloc.Global.{Global}
use Rattle.certs_verify.specs.Holders.{ResourceCertValue}
use Rattle.rpki_steps.specs.certs_basics.Lists.{FirstFailing}
use Rattle.rpki_walk.specs.Repository.{HasListed}
use Rattle.rpki_rules.specs.Certs.{Key, Cert}
use Rattle.rpki_rules.specs.LocatorReasons.{PassesAnchor, tests_of_anchors}
use Rattle.rpki_rules.specs.declared.reason.locators.AnchorTest.{AnchorTest}
use Rattle.rpki_rules.specs.World.{World}
use Rattle.rpki_rules.specs.Points.{IsAnchorCert}
use Rattle.rpki_steps.specs.Holders.{cert_of, sets_of}

-- The certificate is one of a trust anchor with that key, and was verified: with what it lists, by the locator of that name.
pub record IsFoundAnchor (w : World) (key : Key) (tal : String Global) (c : Cert)
    (r : ResourceCertValue) : Type 0 where
  pub same : cert_of r ≡ c
  pub anchor : IsAnchorCert w key c
  pub holds : HasListed c (sets_of r)
  pub name : r.tal ≡ tal

-- The certificate as it was verified, or the first test that fails of a trust anchor's with that key.
abbrev pub FindsAnchor : World → Key → String Global → Cert → Result ResourceCertValue AnchorTest
    → Type 0
FindsAnchor w key tal c (Ok r) = IsFoundAnchor w key tal c r
FindsAnchor w key tal c (Err t) = FirstFailing (PassesAnchor w key c) tests_of_anchors t
