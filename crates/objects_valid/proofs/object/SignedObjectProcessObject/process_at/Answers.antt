use Rattle.std.proofs.Common.{◌≡◌, ℕ, List, Result, inl, refl, subst, sym}
use Rattle.std.specs.Prelude.{IfErr, IfOk}
use Rattle.std.specs.Fn.{FnOnceReturnsAt, FnOnceTakesAt}
use Rattle.objects_valid.specs.certs_extension.Cert.{CertValue}
use Rattle.objects_valid.specs.certs_extension.Verified.{held_by}
use Rattle.objects_valid.specs.certs_extension.declared.forms.Role.TheVariants.{Ee}
use Rattle.certs_verify.specs.certs_x509.declared.errors.validation.ValidationError.{ValidationError}
use Rattle.certs_verify.specs.certs_key.Digesting.{digests_of}
use Rattle.certs_verify.specs.Holders.{ResourceCertValue}
use Rattle.certs_verify.specs.Validated.{TellsNumbers}
use Rattle.objects_valid.specs.Processed.{Answers, FailsAny, PassesAny, ProcessesObject, before_none}
use Rattle.objects_valid.proofs.Processing.{callable_after, processed, processed_outside, processed_tal}
use Rattle.objects_valid.proofs.Sparing.{issued_signed, spared_accepted}
use Rattle.objects_valid.proofs.object.SignedObjectProcessObject.process_at.Goals as goal

pub returns-in-Err-clause-processes : goal.returns-in-Err-clause-processes
returns-in-Err-clause-processes g c = inl c.in-Err.ensures.validates

pub returns-in-Ok-clause-processes : goal.returns-in-Ok-clause-processes
returns-in-Ok-clause-processes g c =
    let d = digests_of g.D.Digester.sha256_digest g.D.Digester.sha1_digest c.args.digester.now in
    let v = g.V.Verifier.says c.args.verifier.now in
    let o = c.args.self in
    let issuer = c.args.issuer.now.holder in
    let says = FnOnceReturnsAt g.F.FnOnce c.args.check_crl in
    let validated = c.in-Ok.ensures.validates in
    let holder = c.in-Ok.holder in
    let asked = subst (λ (x : CertValue). Answers (PassesAny (says x)) (FailsAny (says x)) holder.holder c.ask-tested.result) c.as_cert.ensures (c.ask-tested.ensures.answers holder.holder) in
    subst (ProcessesObject (says o.cert) d v c.args.strict c.args.now issuer o) (sym c.join_if.ensures)
    (processed Ee (λ x content. PassesAny (says x)) (λ x content. FailsAny (says x)) d v c.args.strict c.args.now issuer o o o.content c.in-Ok.content holder c.ask-tested.result refl validated.1 validated.0 asked)

pub returns-in-Ok-clause-tal : goal.returns-in-Ok-clause-tal
returns-in-Ok-clause-tal g c =
    subst (λ (r : Result (ResourceCertValue × List ℕ) ValidationError). IfOk r (λ p. p.0.tal ≡ c.args.issuer.now.tal)) (sym c.join_if.ensures)
    (processed_tal c.in-Ok.content c.args.issuer.now.tal c.in-Ok.holder c.ask-tested.result c.in-Ok.ensures.tal)

pub returns-in-Ok-clause-outside : goal.returns-in-Ok-clause-outside
returns-in-Ok-clause-outside g c =
    let P = TellsNumbers c.args.self.cert (held_by c.args.issuer.now.holder) in
    subst (λ (r : Result (ResourceCertValue × List ℕ) ValidationError). IfErr r P) (sym c.join_if.ensures)
    (processed_outside c.in-Ok.content P c.in-Ok.holder c.ask-tested.result (c.ask-tested.ensures.outside c.args.self.cert c.args.issuer.now.holder))

-- The certificate of which the caller's test is asked is the accepted object's.
pub ask-tested-requires : goal.ask-tested-requires
ask-tested-requires g c =
    let d = digests_of g.D.Digester.sha256_digest g.D.Digester.sha1_digest c.args.digester.now in
    let o = c.args.self in
    let takes = FnOnceTakesAt g.F.FnOnce c.args.check_crl in
    subst takes (sym c.as_cert.ensures)
    (callable_after Ee before_none takes d (g.V.Verifier.says c.args.verifier.now) c.args.strict c.args.now c.args.issuer.now.holder o o o o c.in-Ok.holder.holder refl refl c.in-Ok.ensures.validates.0 (λ h a u. c.requires h a) tt)

pub returns-in-Ok-clause-memory : goal.returns-in-Ok-clause-memory
returns-in-Ok-clause-memory g c =
    let o = c.args.self in
    let issuer = c.args.issuer.now.holder in
    spared_accepted _ _ _ c.in-Ok.content c.in-Ok.holder c.ask-tested.result _ c.join_if.ensures
    (issued_signed (g.V.Verifier.says c.args.verifier.now) c.args.now issuer.cert (held_by issuer) o.cert c.in-Ok.ensures.validates.0.issued)
