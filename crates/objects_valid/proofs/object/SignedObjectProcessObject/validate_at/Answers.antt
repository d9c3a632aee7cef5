use Rattle.std.proofs.Common.{rules, ◌≡◌, Result, subst, sym}
use Rattle.std.specs.Prelude.{IfErr, IfOk}
use Rattle.objects_valid.specs.certs_extension.Verified.{held_by}
use Rattle.objects_valid.specs.certs_extension.declared.forms.Role.TheVariants.{Ee}
use Rattle.certs_verify.specs.certs_x509.declared.errors.validation.ValidationError.{ValidationError}
use Rattle.certs_verify.specs.certs_key.Digesting.{digests_of}
use Rattle.certs_verify.specs.Holders.{ResourceCertValue}
use Rattle.certs_verify.specs.Validated.{TellsNumbers}
use Rattle.objects_valid.specs.Accepted.{ValidatesObject}
use Rattle.objects_valid.proofs.Accepting.{parted_outside, parted_tal, without_content}
use Rattle.objects_valid.proofs.Sparing.{spared_parted}
use Rattle.objects_valid.proofs.object.SignedObjectProcessObject.validate_at.Goals as goal

pub returns-clause-validates : goal.returns-clause-validates
returns-clause-validates g c =
    let d = digests_of g.D.Digester.sha256_digest g.D.Digester.sha1_digest c.args.digester.now in
    let v = g.V.Verifier.says c.args.verifier.now in
    let o = c.args.self in
    subst (ValidatesObject d v c.args.strict Ee c.args.now c.args.issuer.now.holder o) (sym c.part.ensures)
    (without_content d v c.args.strict Ee c.args.now c.args.issuer.now.holder o o.content c.accepted-validated.result c.accepted-validated.ensures.validates)

pub returns-clause-tal : goal.returns-clause-tal
returns-clause-tal g c =
    subst (λ (r : Result ResourceCertValue ValidationError). IfOk r (λ k. k.tal ≡ c.args.issuer.now.tal)) (sym c.part.ensures) (parted_tal c.args.issuer.now.tal c.accepted-validated.result c.accepted-validated.ensures.tal)

pub returns-clause-outside : goal.returns-clause-outside
returns-clause-outside g c =
    let P = TellsNumbers c.args.self.cert (held_by c.args.issuer.now.holder) in
    subst (λ (r : Result ResourceCertValue ValidationError). IfErr r P) (sym c.part.ensures) (parted_outside P c.accepted-validated.result c.accepted-validated.ensures.outside)

pub returns-clause-memory : goal.returns-clause-memory
returns-clause-memory g c =
    let back : c.verifier-1.given.0 ≡ c.accepted-validated.new.terms.verifier.now = search rules in
    rw back (spared_parted _ c.accepted-validated.result _ c.part.ensures c.accepted-validated.ensures.memory)
