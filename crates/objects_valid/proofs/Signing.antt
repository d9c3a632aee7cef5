-- The content is verified after the form.
use Rattle.std.proofs.Common.{Bool, Result, Ok, Err}
use Rattle.certs_verify.specs.certs_basics.HandedIn.{Digests}
use Rattle.certs_verify.specs.certs_basics.Verdicts.{Verdicts}
use Rattle.certs_verify.specs.certs_x509.declared.errors.validation.ValidationError.{ValidationError}
use Rattle.certs_verify.specs.certs_x509.declared.errors.validation.ValidationError.TheVariants.{Inspection, Verification}
use Rattle.objects_valid.specs.certs_extension.Profiles.{Profile}
use Rattle.objects_valid.specs.certs_extension.declared.forms.Role.{Role}
use Rattle.objects_valid.specs.objects_payload.ObjectText.{Object}
use Rattle.objects_valid.specs.Accepted.{VerifiesSigned}
use Rattle.objects_valid.specs.Content.{VerifiesSound}

pub signed_by : (d : Digests) (good : Verdicts) (strict : Bool) (role : Role) (o : Object) (r : Result (Unit {0}) ValidationError)
    → Profile d strict role o.cert → VerifiesSound d good o r → VerifiesSigned d good strict role o r
signed_by d good strict role o (Ok x) p s = (p, s)
signed_by d good strict role o (Err (Inspection t)) p f = absurd f
signed_by d good strict role o (Err (Verification e)) p f = (p, f)
