-- What an authority asks of another authority's certificate below it, revocation apart (RFC 6487 7.2, RFC 8360 4.2).
use Rattle.std.specs.Prelude.{◌≡◌, ◌++◌, ℕ, List, map, true, Result, Ok, Err}
use Rattle.certs_verify.specs.Holders.{ResourceCertValue}
use Rattle.rpki_steps.specs.certs_basics.Lists.{FirstFailing}
use Rattle.rpki_walk.specs.Repository.{HasKept}
use Rattle.rpki_steps.specs.certs_extension.declared.forms.Role.TheVariants.{Ca}
use Rattle.rpki_rules.specs.declared.reason.files.CerTest.{CerTest as Told}
use Rattle.rpki_rules.specs.declared.reason.files.CerTest.TheVariants as told
use Rattle.rpki_rules.specs.Certs.{CaProfile, Cert}
use Rattle.rpki_rules.specs.Kinds.{Kind, InSet}
use Rattle.rpki_rules.specs.World.{World}
use Rattle.rpki_rules.specs.Points.{Point, Signed}
use Rattle.rpki_rules.specs.Chains.{Fits, IsChild}
use Rattle.rpki_rules.specs.Reasons.{AreUnheld, cert_tests, kinds}
use Rattle.rpki_rules.specs.FileReasons.{CerTest, CerCert, CerClaim, PassesCer, tests_of_cers}
use Rattle.rpki_rules.specs.ReasonViews.{cer_test_of, kind_claimed, runs_claimed}
use Rattle.rpki_steps.specs.Holders.{cert_of, sets_of}

-- It has the form of an authority's, the issuer signed it, and its claim fits. `held` says what the issuer holds.
pub record IsBelow (w : World) (held : Kind → ℕ → Type 0) (ca c : Cert) : Type 0 where
  pub profile : CaProfile w.digests true c
  pub signed : Signed w c ca
  pub fits : Fits held c

-- The certificate is below the issuer, and was verified: with what it then holds, by its issuer's locator.
pub record IsFoundBelow (w : World) (issuer : ResourceCertValue) (c : Cert)
    (r : ResourceCertValue) : Type 0 where
  pub same : cert_of r ≡ c
  pub below : IsBelow w (InSet (sets_of issuer)) (cert_of issuer) c
  pub holds : HasKept (InSet (sets_of issuer)) c (sets_of r)
  pub tal : r.tal ≡ issuer.tal

-- The tests of that, in their order.
abbrev pub below_tests : List CerTest
below_tests = map CerCert (cert_tests Ca) ++ map CerClaim kinds

-- Where the test is one of claims, these are the numbers that are listed and aren't held.
abbrev pub TellsUnheld : (Kind → ℕ → Type 0) → Cert → Told → Type 0
TellsUnheld held c (told.CerRevocation t) = Unit {0}
TellsUnheld held c (told.CerCert t) = Unit {0}
TellsUnheld held c (told.CerClaim x) = AreUnheld held c (kind_claimed x) (runs_claimed x)

-- The first of the tests that fails, and the numbers that aren't held.
pub record FailsBelow (w : World) (issuer : ResourceCertValue) (c : Cert) (t : Told) : Type 0 where
  pub fails : (p : Point) →
      FirstFailing (PassesCer w (InSet (sets_of issuer)) (cert_of issuer) p c) below_tests
      (cer_test_of t)
  pub unheld : TellsUnheld (InSet (sets_of issuer)) c t

-- The certificate as it was verified, or why it isn't below the issuer.
abbrev pub FindsBelow : World → ResourceCertValue → Cert → Result ResourceCertValue Told → Type 0
FindsBelow w issuer c (Ok r) = IsFoundBelow w issuer c r
FindsBelow w issuer c (Err t) = FailsBelow w issuer c t

-- The certificate is a child at the authority's point, and was verified, with what it then holds.
pub record IsFoundChild (w : World) (ca : ResourceCertValue) (p : Point) (c : Cert)
    (r : ResourceCertValue) : Type 0 where
  pub same : cert_of r ≡ c
  pub child : IsChild w (InSet (sets_of ca)) (cert_of ca) p c
  pub holds : HasKept (InSet (sets_of ca)) c (sets_of r)

-- The first of a child's tests that fails, and the numbers that aren't held.
pub record FailsChild (w : World) (ca : ResourceCertValue) (p : Point) (c : Cert) (t : Told)
    : Type 0 where
  pub fails : FirstFailing (PassesCer w (InSet (sets_of ca)) (cert_of ca) p c) tests_of_cers
      (cer_test_of t)
  pub unheld : TellsUnheld (InSet (sets_of ca)) c t

-- The certificate as it was verified, or why it is no child there.
abbrev pub FindsChild : World → ResourceCertValue → Point → Cert → Result ResourceCertValue Told
    → Type 0
FindsChild w ca p c (Ok r) = IsFoundChild w ca p c r
FindsChild w ca p c (Err t) = FailsChild w ca p c t
