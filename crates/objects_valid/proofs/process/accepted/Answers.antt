use Rattle.std.proofs.Common.{◌≡◌, Result, subst, sym}
use Rattle.std.specs.Prelude.{IfErr, IfOk}
use Rattle.objects_valid.specs.certs_extension.Cert.{CertValue}
use Rattle.objects_valid.specs.certs_extension.Verified.{held_by}
use Rattle.certs_verify.specs.certs_x509.declared.errors.validation.ValidationError.{ValidationError}
use Rattle.certs_verify.specs.certs_key.Digesting.{digests_of}
use Rattle.certs_verify.specs.Holders.{ResourceCertValue}
use Rattle.certs_verify.specs.Validated.{Inspects, TellsNumbers}
use Rattle.objects_valid.specs.Accepted.{ValidatesObject}
use Rattle.objects_valid.proofs.Accepting.{parted_outside, parted_tal, without_content}
use Rattle.objects_valid.proofs.Sparing.{spared_parted}
use Rattle.objects_valid.proofs.process.accepted.Goals as goal

pub returns-clause-validates : goal.returns-clause-validates
returns-clause-validates g c =
    let d = digests_of g.D.Digester.sha256_digest g.D.Digester.sha1_digest c.args.terms.now.digester.now in
    let v = g.V.Verifier.says c.args.terms.now.verifier.now in
    let o = c.args.signed in
    let role = g.T.Attested.role in
    let form = subst (λ (x : CertValue). Inspects d c.args.terms.now.strict role x c.inspect-form.result) c.cert.ensures c.inspect-form.ensures in
    subst (ValidatesObject d v c.args.terms.now.strict role c.args.terms.now.moment c.args.issuer.now.holder o) (sym c.part.ensures)
    (without_content d v c.args.terms.now.strict role c.args.terms.now.moment c.args.issuer.now.holder o o.content c.validate-validated.result (c.validate-validated.ensures.validates role form))

pub returns-clause-tal : goal.returns-clause-tal
returns-clause-tal g c =
    subst (λ (r : Result ResourceCertValue ValidationError). IfOk r (λ k. k.tal ≡ c.args.issuer.now.tal)) (sym c.part.ensures) (parted_tal c.args.issuer.now.tal c.validate-validated.result c.validate-validated.ensures.tal)

pub returns-clause-outside : goal.returns-clause-outside
returns-clause-outside g c =
    let P = TellsNumbers c.args.signed.cert (held_by c.args.issuer.now.holder) in
    subst (λ (r : Result ResourceCertValue ValidationError). IfErr r P) (sym c.part.ensures) (parted_outside P c.validate-validated.result c.validate-validated.ensures.outside)

pub returns-clause-memory : goal.returns-clause-memory
returns-clause-memory g c = spared_parted _ c.validate-validated.result _ c.part.ensures c.validate-validated.ensures.memory
