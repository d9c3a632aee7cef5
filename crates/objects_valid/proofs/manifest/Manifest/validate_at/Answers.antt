use Rattle.std.proofs.Common.{◌≡◌, Result, subst, sym}
use Rattle.std.specs.Prelude.{IfErr, IfOk}
use Rattle.objects_valid.specs.certs_extension.Verified.{held_by}
use Rattle.objects_valid.specs.certs_extension.declared.forms.Role.TheVariants.{Ee}
use Rattle.certs_verify.specs.certs_x509.declared.errors.validation.ValidationError.{ValidationError}
use Rattle.certs_verify.specs.certs_key.Digesting.{digests_of}
use Rattle.certs_verify.specs.Holders.{ResourceCertValue}
use Rattle.certs_verify.specs.Validated.{TellsNumbers}
use Rattle.objects_valid.specs.objects_payload.Manifests.{Manifest}
use Rattle.objects_valid.specs.objects_payload.ObjectText.{Object}
use Rattle.objects_valid.specs.Accepted.{ValidatesContent, ValidatesObject}
use Rattle.objects_valid.proofs.Accepting.{joined_outside, joined_tal, with_content}
use Rattle.objects_valid.proofs.Sparing.{spared_alike, spared_joined}
use Rattle.objects_valid.proofs.manifest.Manifest.validate_at.Goals as goal

-- What is answered.
abbrev Answer : Type 0
Answer = Result (ResourceCertValue × Manifest) ValidationError

pub returns-clause-validates : goal.returns-clause-validates
returns-clause-validates g c =
    let d = digests_of g.D.Digester.sha256_digest g.D.Digester.sha1_digest c.args.digester.now in
    let v = g.V.Verifier.says c.args.verifier.now in
    let k = c.args.self in
    let issuer = c.args.issuer.now.holder in
    let r = c.validate_at-validated.result in
    let validated = subst (λ (o : Object). ValidatesObject d v c.args.strict Ee c.args.now issuer o r) c.into_parts-signed.ensures.signed c.validate_at-validated.ensures.validates in
    subst (ValidatesContent d v c.args.strict Ee c.args.now issuer k.signed k.content) (sym c.join.ensures)
    (with_content d v c.args.strict Ee c.args.now issuer k.signed k.content c.into_parts-signed.result.1 r c.into_parts-signed.ensures.content validated)

pub returns-clause-tal : goal.returns-clause-tal
returns-clause-tal g c =
    subst (λ (r : Answer). IfOk r (λ p. p.0.tal ≡ c.args.issuer.now.tal)) (sym c.join.ensures) (joined_tal c.into_parts-signed.result.1 c.args.issuer.now.tal c.validate_at-validated.result c.validate_at-validated.ensures.tal)

pub returns-clause-outside : goal.returns-clause-outside
returns-clause-outside g c =
    let held = held_by c.args.issuer.now.holder in
    let r = c.validate_at-validated.result in
    let P = TellsNumbers c.args.self.signed.cert held in
    let told = subst (λ (o : Object). IfErr r (TellsNumbers o.cert held)) c.into_parts-signed.ensures.signed c.validate_at-validated.ensures.outside in
    subst (λ (k : Answer). IfErr k P) (sym c.join.ensures) (joined_outside c.into_parts-signed.result.1 P r told)

pub returns-clause-memory : goal.returns-clause-memory
returns-clause-memory g c =
    let k = c.args.self in
    let r = c.validate_at-validated.result in
    spared_joined _ c.into_parts-signed.result.1 r _ c.join.ensures
    (spared_alike _ _ (g.V.Verifier.says c.args.verifier.now) c.args.now c.args.issuer.now.holder.cert c.into_parts-signed.result.0 k.signed r c.into_parts-signed.ensures.signed c.validate_at-validated.ensures.memory)
