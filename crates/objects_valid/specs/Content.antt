-- What verification of a content alone answers, as a validation answers it.
use Rattle.std.specs.Prelude.{Result, Ok, Err}
use Rattle.certs_verify.specs.certs_basics.HandedIn.{Digests}
use Rattle.certs_verify.specs.certs_basics.Verdicts.{Verdicts}
use Rattle.certs_verify.specs.certs_x509.declared.errors.validation.ValidationError.{ValidationError}
use Rattle.certs_verify.specs.certs_x509.declared.errors.validation.ValidationError.TheVariants as error
use Rattle.objects_valid.specs.objects_payload.ObjectText.{Object, Sound}
use Rattle.objects_cms.specs.Content.{FailsContent}

abbrev pub FailsSound : Digests → Verdicts → Object → ValidationError → Type 0
FailsSound d good o (error.Inspection t) = ⊥
FailsSound d good o (error.Verification e) = FailsContent d good o e

abbrev pub VerifiesSound : Digests → Verdicts → Object → Result (Unit {0}) ValidationError → Type 0
VerifiesSound d good o (Ok x) = Sound d good o
VerifiesSound d good o (Err e) = FailsSound d good o e
