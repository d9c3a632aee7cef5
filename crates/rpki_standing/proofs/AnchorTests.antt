-- What the tests of a trust anchor's certificate answer, of which its key is the first.
use Rattle.std.proofs.Common.{◌≡◌, ◌++◌, [], ◌∷◌, List, map, Result, Ok, MatchResult}
use Rattle.std.specs.Prelude.{IsErrAnd}
use Rattle.certs_verify.specs.TestAnswers.{Answers}
use Rattle.rpki_standing.specs.certs_basics.Lists.{FirstFailing}
use Rattle.rpki_standing.specs.certs_extension.declared.forms.Role.TheVariants.{Ta}
use Rattle.rpki_standing.specs.certs_extension.Profiles.{tests}
use Rattle.rpki_standing.specs.certs_extension.Verified.{anchor_tests}
use Rattle.rpki_rules.specs.Certs.{Cert, Key, encoded}
use Rattle.rpki_rules.specs.declared.reason.locators.AnchorTest.TheVariants.{SameKey, AnchorCert}
use Rattle.rpki_rules.specs.LocatorReasons.{PassesAnchor, tests_of_anchors}
use Rattle.rpki_rules.specs.declared.reason.locators.AnchorTest.{AnchorTest}
use Rattle.rpki_rules.specs.declared.reason.certs.CertTest.TheVariants.{Inspection, Verification}
use Rattle.rpki_rules.specs.Reasons.{PassesCert}
use Rattle.rpki_rules.specs.declared.reason.certs.CertTest.{CertTest}
use Rattle.rpki_rules.specs.World.{World}
use Rattle.rpki_rules.proofs.FirstParts.{first_here}
use Rattle.rpki_standing.proofs.TestsTold.{told_by}

module _ (w : World) (c : Cert) (key : Key) where
  abbrev own_tests : List CertTest
  own_tests = map Inspection (tests Ta) ++ map Verification anchor_tests

  -- It has another key.
  pub other_key : (encoded c.tbs.key ≡ encoded key → ⊥) → FirstFailing (PassesAnchor w key c) tests_of_anchors SameKey
  other_key n = first_here (PassesAnchor w key c) SameKey (map AnchorCert own_tests) n

  -- It has that key.
  pub anchor_told : (s : Result (Unit {0}) CertTest) (r : Result (Unit {0}) AnchorTest) → encoded c.tbs.key ≡ encoded key → Answers (PassesCert w Ta c c) (map Inspection (tests Ta) ++ map Verification anchor_tests) s
      → MatchResult s (λ x. r ≡ Ok x) (λ e. IsErrAnd r (λ d. d ≡ AnchorCert e)) → Answers (PassesAnchor w key c) tests_of_anchors r
  anchor_told s r same told is = told_by AnchorCert (PassesAnchor w key c) (SameKey ∷ []) own_tests s r (same, tt) told is
