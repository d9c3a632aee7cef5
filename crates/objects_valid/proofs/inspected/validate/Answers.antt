use Rattle.std.proofs.Common.{◌≡◌, ℕ, List, Result, inl, subst, sym}
use Rattle.std.specs.Prelude.{IfErr, IfOk}
use Rattle.objects_valid.specs.certs_extension.Cert.{CertValue}
use Rattle.objects_valid.specs.certs_extension.Verified.{held_by}
use Rattle.certs_verify.specs.certs_x509.declared.errors.validation.ValidationError.{ValidationError}
use Rattle.certs_verify.specs.Holders.{ResourceCertValue}
use Rattle.certs_verify.specs.Validated.{TellsNumbers}
use Rattle.certs_verify.specs.certs_key.Digesting.{digests_of}
use Rattle.objects_valid.specs.Accepted.{ValidatesContent}
use Rattle.objects_valid.proofs.Accepting.{behind, joined_outside, joined_tal, with_content}
use Rattle.objects_valid.proofs.Sparing.{spared_below, spared_joined}
use Rattle.objects_valid.proofs.inspected.validate.Goals as goal

-- What is answered.
abbrev Answer : Type 0
Answer = Result (ResourceCertValue × List ℕ) ValidationError

pub returns-in-Err-clause-validates : goal.returns-in-Err-clause-validates
returns-in-Err-clause-validates g c role i =
    inl (c.in-Err.ensures.verifies c.args.terms.now.strict role i)

pub returns-in-Ok-clause-validates : goal.returns-in-Ok-clause-validates
returns-in-Ok-clause-validates g c role i =
    let d = digests_of g.D.Digester.sha256_digest g.D.Digester.sha1_digest c.args.terms.now.digester.now in
    let v = g.V.Verifier.says c.args.terms.now.verifier.now in
    let o = c.args.signed in
    let issuer = c.args.issuer.now.holder in
    let signed = c.in-Ok.ensures.verifies c.args.terms.now.strict role i in
    let below = behind d v _ c.args.terms.now.strict role c.args.terms.now.moment issuer o c.split-cert.result.0 c.verify_below-validated.result c.in-Ok.ensures.same c.split-cert.ensures.cert signed c.verify_below-validated.ensures.verifies in
    subst (ValidatesContent d v c.args.terms.now.strict role c.args.terms.now.moment issuer o o.content) (sym c.join.ensures)
    (with_content d v c.args.terms.now.strict role c.args.terms.now.moment issuer o o.content c.split-cert.result.1 c.verify_below-validated.result c.split-cert.ensures.content below)

pub returns-in-Ok-clause-tal : goal.returns-in-Ok-clause-tal
returns-in-Ok-clause-tal g c =
    subst (λ (r : Answer). IfOk r (λ p. p.0.tal ≡ c.args.issuer.now.tal)) (sym c.join.ensures) (joined_tal c.split-cert.result.1 c.args.issuer.now.tal c.verify_below-validated.result c.verify_below-validated.ensures.tal)

pub returns-in-Ok-clause-outside : goal.returns-in-Ok-clause-outside
returns-in-Ok-clause-outside g c =
    let held = held_by c.args.issuer.now.holder in
    let r = c.verify_below-validated.result in
    let P = TellsNumbers c.args.signed.cert held in
    let told = subst (λ (x : CertValue). IfErr r (TellsNumbers x held)) c.split-cert.ensures.cert c.verify_below-validated.ensures.outside in
    subst (λ (k : Answer). IfErr k P) (sym c.join.ensures) (joined_outside c.split-cert.result.1 P r told)

pub returns-in-Err-clause-outside : goal.returns-in-Err-clause-outside
returns-in-Err-clause-outside g c = c.in-Err.ensures.outside c.args.issuer.now.holder

pub returns-in-Err-clause-memory : goal.returns-in-Err-clause-memory
returns-in-Err-clause-memory g c m = inl (c.in-Err.ensures.spared m)

pub returns-in-Ok-clause-memory : goal.returns-in-Ok-clause-memory
returns-in-Ok-clause-memory g c =
    let v = g.V.Verifier.says c.args.terms.now.verifier.now in
    let o = c.args.signed in
    let r = c.verify_below-validated.result in
    spared_joined _ c.split-cert.result.1 r _ c.join.ensures
    (spared_below _ _ v _ c.args.terms.now.moment c.args.issuer.now.holder o.cert c.split-cert.result.0 r c.in-Ok.ensures.same c.split-cert.ensures.cert c.verify_below-validated.ensures.verifies)
