-- A validation below an issuer decides whether the certificate is below it, and why not.
use Rattle.std.proofs.Common.{◌≡◌, ℕ, true, List, map, Option, Some, None, Result, Ok, Err, refl, sym, subst}
use Rattle.std.specs.Prelude.{IfErr, IfOk}
use Rattle.certs_verify.specs.declared.refused.Refused.{Refused}
use Rattle.certs_verify.specs.Answers.{fault_of}
use Rattle.certs_verify.specs.Holders.{ResourceCertValue}
use Rattle.certs_verify.specs.Validated.{MeetsValid, TellsNumbers, cause_of}
use Rattle.certs_verify.specs.Words.{RefusedBy}
use Rattle.rpki_steps.specs.certs_basics.Lists.{Each, FirstFailing}
use Rattle.rpki_steps.specs.certs_x509.declared.errors.validation.ValidationError.{ValidationError}
use Rattle.rpki_steps.specs.certs_x509.declared.errors.validation.ValidationError.TheVariants as error
use Rattle.rpki_steps.specs.certs_x509.declared.errors.verification.VerificationError.TheVariants.{Overclaim}
use Rattle.rpki_steps.specs.certs_x509.declared.errors.verification.Overclaimed.{Overclaimed}
use Rattle.rpki_steps.specs.certs_x509.declared.errors.verification.Overclaimed.TheVariants as outside
use Rattle.rpki_steps.specs.certs_extension.declared.forms.InspectionError.{InspectionError}
use Rattle.rpki_steps.specs.certs_extension.declared.forms.Role.TheVariants.{Ca}
use Rattle.rpki_steps.specs.certs_extension.declared.forms.VerificationTest.{VerificationTest}
use Rattle.rpki_steps.specs.certs_extension.declared.forms.VerificationTest.TheVariants as test
use Rattle.rpki_steps.specs.certs_extension.Calls.{Fault, inspected, verified, wants_memory, ValidatesIssued}
use Rattle.rpki_steps.specs.certs_extension.Profiles.{Passes, Profile, tests}
use Rattle.rpki_steps.specs.certs_extension.Verified.{AcceptsIssued, PassesAt, held_by, issued_tests}
use Rattle.rpki_rules.specs.declared.reason.files.CerTest.{CerTest as Told}
use Rattle.rpki_rules.specs.declared.reason.files.CerTest.TheVariants as told
use Rattle.rpki_rules.specs.Certs.{Cert}
use Rattle.rpki_rules.specs.Kinds.{InSet}
use Rattle.rpki_rules.specs.Points.{Point}
use Rattle.rpki_rules.specs.World.{World}
use Rattle.rpki_rules.specs.declared.reason.certs.CertTest.TheVariants.{Inspection, Verification}
use Rattle.rpki_rules.specs.Reasons.{PassesCert, cert_tests, kinds, signature_tests}
use Rattle.rpki_rules.specs.declared.reason.certs.CertTest.{CertTest}
use Rattle.rpki_rules.specs.FileReasons.{CerTest, CerCert, CerClaim, PassesCer}
use Rattle.rpki_rules.specs.ReasonViews.{cer_test_of}
use Rattle.rpki_rules.proofs.Firsts.{fails_also, map_each}
use Rattle.rpki_rules.proofs.FirstParts.{first_behind, first_in_front, first_map}
use Rattle.rpki_standing.specs.Tests.{IsTest}
use Rattle.rpki_steps.specs.Below.{FailsBelow, IsFoundBelow, TellsUnheld, below_tests}
use Rattle.rpki_steps.specs.Holders.{cert_of, sets_of}
use Rattle.rpki_steps.specs.Accepted.{IsAcceptedOrRefused, IsRefusal, TellsCer, cer_test_by}
use Rattle.rpki_steps.proofs.AcceptedClaims.{issued_signed, issued_fits, below_keeps}
use Rattle.rpki_steps.proofs.Refusing.{is_refusal}

-- What is accepted is below the issuer.
is_below : (w : World) (issuer : ResourceCertValue) (c : Cert) (r : ResourceCertValue)
    → AcceptsIssued w.digests w.good true Ca w.moment issuer.holder c r.holder → r.tal ≡ issuer.tal → IsFoundBelow w issuer c r
is_below w issuer c r a t = record {
  same = a.holds.cert;
  below = record {
    profile = a.profile;
    signed = issued_signed w issuer.holder.cert (held_by issuer.holder) c a.issued;
    fits = issued_fits w issuer.holder.cert (InSet (sets_of issuer)) c a.issued;
  };
  holds = below_keeps issuer r c a.holds;
  tal = t;
}

module _ (w : World) (issuer : ResourceCertValue) (c : Cert) where
  module _ (p : Point) where
    abbrev P : VerificationTest → Type 0
    P = PassesAt w.good w.moment (cert_of issuer) (held_by issuer.holder) c

    abbrev Q : CerTest → Type 0
    Q = PassesCer w (InSet (sets_of issuer)) (cert_of issuer) p c

    -- A test of verification asks what that of an authority's certificate asks.
    asks : (t : VerificationTest) → P t → Q (cer_test_by t)
    asks test.NotYetValid h = h
    asks test.Expired h = h
    asks test.AuthorityKeyMissing h = h
    asks test.AuthorityKeyMismatch h = h
    asks test.AiaMissing h = h
    asks test.BadSignature h = h
    asks test.InheritedV4 h = h
    asks test.InheritedV6 h = h
    asks test.InheritedAs h = h
    asks test.OverclaimV4 h = h
    asks test.OverclaimV6 h = h
    asks test.OverclaimAs h = h

    asked : (t : VerificationTest) → Q (cer_test_by t) → P t
    asked test.NotYetValid h = h
    asked test.Expired h = h
    asked test.AuthorityKeyMissing h = h
    asked test.AuthorityKeyMismatch h = h
    asked test.AiaMissing h = h
    asked test.BadSignature h = h
    asked test.InheritedV4 h = h
    asked test.InheritedV6 h = h
    asked test.InheritedAs h = h
    asked test.OverclaimV4 h = h
    asked test.OverclaimV6 h = h
    asked test.OverclaimAs h = h

    abbrev forms : List CertTest
    forms = map Inspection (tests Ca)

    -- Of the form one fails.
    form_fails : (t : InspectionError) → FirstFailing (Passes w.digests true Ca c) (tests Ca) t → FirstFailing Q below_tests (CerCert (Inspection t))
    form_fails t f =
        let cert : CertTest → Type 0 = PassesCert w Ca (cert_of issuer) c in
        let g : FirstFailing cert (cert_tests Ca) (Inspection t) = first_in_front cert forms (map Verification signature_tests) (Inspection t) (first_map Inspection cert (tests Ca) t f) in
        first_in_front Q (map CerCert (cert_tests Ca)) (map CerClaim kinds) (CerCert (Inspection t)) (first_map CerCert Q (cert_tests Ca) (Inspection t) g)

    -- Of verification one does.
    verification_fails : (t : VerificationTest) → Profile w.digests true Ca c → FirstFailing P issued_tests t → FirstFailing Q below_tests (cer_test_by t)
    verification_fails t profile f =
        let R : VerificationTest → Type 0 = λ z. Q (cer_test_by z) in
        let all : Each Q (map CerCert forms) = map_each CerCert Q forms (map_each Inspection (PassesCert w Ca (cert_of issuer) c) (tests Ca) profile) in
        first_behind Q (map CerCert forms) (map cer_test_by issued_tests) (cer_test_by t) all (first_map cer_test_by Q issued_tests t (fails_also P R issued_tests t asks (asked t) f))

    -- The test that the error tells.
    fault_fails : (given : Cert) (o : Option Fault) (t : CerTest) → ((x : VerificationTest) → o ≡ Some (verified x) → t ≡ cer_test_by x) → IsTest o
        → RefusedBy (ValidatesIssued w.digests w.good true Ca w.moment issuer.holder c) given o → FirstFailing Q below_tests t
    fault_fails given None t told i h = absurd i
    fault_fails given (Some (inspected x)) t told i h = absurd i
    fault_fails given (Some (verified x)) t told i h = subst (FirstFailing Q below_tests) (sym (told x refl)) (verification_fails x h.1.0 h.1.1)
    fault_fails given (Some wants_memory) t told i h = absurd i

    fails_told : (given : Cert) (e : ValidationError) (t : CerTest) → TellsCer e t → IsRefusal e → RefusedBy (ValidatesIssued w.digests w.good true Ca w.moment issuer.holder c) given (cause_of e) → FirstFailing Q below_tests t
    fails_told given (error.Inspection x) t told i h = subst (FirstFailing Q below_tests) (sym told) (form_fails x h.1)
    fails_told given (error.Verification e) t told i h = fault_fails given (fault_of e) t told i h

  -- The numbers that it tells.
  numbers_told : (x : Overclaimed) → TellsNumbers c (held_by issuer.holder) (error.Verification (Overclaim x)) → TellsUnheld (InSet (sets_of issuer)) c (told.CerClaim x)
  numbers_told (outside.V4 numbers) h = h
  numbers_told (outside.V6 numbers) h = h
  numbers_told (outside.Asn numbers) h = h

  unheld_told : (e : ValidationError) (t : Told) → ((x : Overclaimed) → t ≡ told.CerClaim x → e ≡ error.Verification (Overclaim x)) → TellsNumbers c (held_by issuer.holder) e → TellsUnheld (InSet (sets_of issuer)) c t
  unheld_told e (told.CerRevocation x) claim h = tt
  unheld_told e (told.CerCert x) claim h = tt
  unheld_told e (told.CerClaim x) claim h = numbers_told x (subst (TellsNumbers c (held_by issuer.holder)) (claim x refl) h)

  -- What the validation settles is the answer, at the world's moment.
  module _ (now : ℕ) (at : now ≡ w.moment) where
    pub accepted : (v : Result ResourceCertValue (Refused ValidationError)) (r : ResourceCertValue)
        → MeetsValid (ValidatesIssued w.digests w.good true Ca now issuer.holder c) v → IfOk v (λ r. r.tal ≡ issuer.tal) → IsAcceptedOrRefused v (Ok r) → IsFoundBelow w issuer c r
    accepted (Ok r) s m t e =
        subst (λ (x : ResourceCertValue). IsFoundBelow w issuer c x) (sym e) (is_below w issuer c r (subst (λ (n : ℕ). AcceptsIssued w.digests w.good true Ca n issuer.holder c r.holder) at m) t)
    accepted (Err x) s m t e = absurd e

    pub refused : (v : Result ResourceCertValue (Refused ValidationError)) (e : ValidationError) (t : Told)
        → MeetsValid (ValidatesIssued w.digests w.good true Ca now issuer.holder c) v → IfErr v (λ r. TellsNumbers c (held_by issuer.holder) r.error) → IsAcceptedOrRefused v (Err e)
        → TellsCer e (cer_test_of t) → ((x : Overclaimed) → t ≡ told.CerClaim x → e ≡ error.Verification (Overclaim x)) → FailsBelow w issuer c t
    refused (Ok r) e t m n s tells claim = absurd s
    refused (Err x) e t m n s tells claim = record {
      fails = λ p. fails_told p x.cert e (cer_test_of t) tells (is_refusal (ValidatesIssued w.digests w.good true Ca now issuer.holder c) (Err x) e m s)
          (subst (λ (f : ValidationError). RefusedBy (ValidatesIssued w.digests w.good true Ca w.moment issuer.holder c) x.cert (cause_of f)) (sym s.0)
          (subst (λ (a : ℕ). RefusedBy (ValidatesIssued w.digests w.good true Ca a issuer.holder c) x.cert (cause_of x.error)) at m));
      unheld = unheld_told e t claim (subst (TellsNumbers c (held_by issuer.holder)) (sym s.0) n);
    }
