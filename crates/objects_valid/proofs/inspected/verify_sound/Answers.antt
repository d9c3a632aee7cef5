use Rattle.std.proofs.Common.{sym, ◌∙◌}
use Rattle.objects_valid.specs.certs_extension.Verified.{held_by}
use Rattle.certs_verify.specs.certs_key.Digesting.{digests_of}
use Rattle.objects_valid.proofs.Accepting.{content_tells}
use Rattle.certs_verify.specs.certs_x509.declared.errors.verification.VerificationError.TheVariants.{Memory}
use Rattle.objects_valid.proofs.Sparing.{not_signature, told_inside}
use Rattle.objects_valid.proofs.inspected.verify_sound.Goals as goal

pub returns-in-Err-clause-outside : goal.returns-in-Err-clause-outside
returns-in-Err-clause-outside g c issuer =
    let d = digests_of g.D.Digester.sha256_digest g.D.Digester.sha1_digest c.args.digester.now in
    let v = g.V.Verifier.says c.args.verifier.now in
    content_tells d v c.args.signed.now c.args.signed.now.cert (held_by issuer) c.in-Err.error c.in-Err.ensures.answers

pub returns-in-Err-clause-spared : goal.returns-in-Err-clause-spared
returns-in-Err-clause-spared g c m = c.in-Err.ensures.spared (λ b. not_signature (sym (told_inside c.in-Err.error Memory m) ∙ b))
