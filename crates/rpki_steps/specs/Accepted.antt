-- What a validation accepted, or which test refused.
use Rattle.std.specs.Prelude.{◌≡◌, ◌≢◌, Some, Result, Ok, Err}
use Rattle.certs_verify.specs.declared.refused.Refused.{Refused}
use Rattle.certs_verify.specs.Answers.{fault_of}
use Rattle.certs_verify.specs.Holders.{ResourceCertValue}
use Rattle.certs_verify.specs.Validated.{cause_of}
use Rattle.rpki_steps.specs.certs_x509.declared.errors.validation.ValidationError.{ValidationError}
use Rattle.rpki_steps.specs.certs_x509.declared.errors.validation.ValidationError.TheVariants as error
use Rattle.rpki_steps.specs.certs_extension.Calls.{Fault, inspected, verified, wants_memory}
use Rattle.rpki_steps.specs.certs_extension.declared.forms.VerificationTest.{VerificationTest}
use Rattle.rpki_steps.specs.certs_extension.declared.forms.VerificationTest.TheVariants as test
use Rattle.rpki_rules.specs.Kinds.{Ipv4, Ipv6, As}
use Rattle.rpki_rules.specs.declared.reason.certs.CertTest.TheVariants.{Inspection, Verification}
use Rattle.rpki_rules.specs.declared.reason.certs.CertTest.{CertTest}
use Rattle.rpki_rules.specs.FileReasons.{CerTest, CerCert, CerClaim}
use Rattle.rpki_standing.specs.Tests.{IsTest}

-- The certificate was accepted, or refused by a test and not for lack of memory.
abbrev pub IsAcceptedOrRefused : Result ResourceCertValue (Refused ValidationError)
    → Result ResourceCertValue ValidationError → Type 0
IsAcceptedOrRefused (Ok r) (Ok s) = s ≡ r
IsAcceptedOrRefused (Ok r) (Err e) = ⊥
IsAcceptedOrRefused (Err x) (Ok s) = ⊥
IsAcceptedOrRefused (Err x) (Err e) = (e ≡ x.error) × (cause_of e ≢ Some wants_memory)

-- The error tells a test.
abbrev pub IsRefusal : ValidationError → Type 0
IsRefusal (error.Inspection t) = Unit {0}
IsRefusal (error.Verification e) = IsTest (fault_of e)

-- The fault that a certificate has which fails the test.
abbrev pub cert_fault : CertTest → Fault
cert_fault (Inspection t) = inspected t
cert_fault (Verification t) = verified t

-- A test of verification, as one of an authority's certificate: its claim is told apart.
abbrev pub cer_test_by : VerificationTest → CerTest
cer_test_by test.NotYetValid = CerCert (Verification test.NotYetValid)
cer_test_by test.Expired = CerCert (Verification test.Expired)
cer_test_by test.AuthorityKeyMissing = CerCert (Verification test.AuthorityKeyMissing)
cer_test_by test.AuthorityKeyMismatch = CerCert (Verification test.AuthorityKeyMismatch)
cer_test_by test.AiaMissing = CerCert (Verification test.AiaMissing)
cer_test_by test.BadSignature = CerCert (Verification test.BadSignature)
cer_test_by test.InheritedV4 = CerCert (Verification test.InheritedV4)
cer_test_by test.InheritedV6 = CerCert (Verification test.InheritedV6)
cer_test_by test.InheritedAs = CerCert (Verification test.InheritedAs)
cer_test_by test.OverclaimV4 = CerClaim Ipv4
cer_test_by test.OverclaimV6 = CerClaim Ipv6
cer_test_by test.OverclaimAs = CerClaim As

-- That is the test which the error tells.
abbrev pub TellsCer : ValidationError → CerTest → Type 0
TellsCer (error.Inspection t) r = r ≡ CerCert (Inspection t)
TellsCer (error.Verification e) r =
    (t : VerificationTest) → fault_of e ≡ Some (verified t) → r ≡ cer_test_by t
