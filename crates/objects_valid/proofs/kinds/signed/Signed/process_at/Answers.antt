use Rattle.std.proofs.Common.{subst, sym}
use Rattle.std.specs.Fn.{FnOnceReturnsAt, FnOnceTakesAt}
use Rattle.objects_valid.specs.certs_extension.Verified.{held_by}
use Rattle.certs_verify.specs.certs_key.Digesting.{digests_of}
use Rattle.certs_verify.specs.Validated.{TellsNumbers}
use Rattle.objects_valid.specs.Processed.{ProcessesKind}
use Rattle.objects_valid.proofs.Processing.{callable_after, outside_joined, processed, refused}
use Rattle.objects_valid.proofs.kinds.signed.Signed.process_at.Goals as goal

pub returns-in-Err-clause-processes : goal.returns-in-Err-clause-processes
returns-in-Err-clause-processes g c =
    let d = digests_of g.D.Digester.sha256_digest g.D.Digester.sha1_digest c.args.digester.now in
    let v = g.V.Verifier.says c.args.verifier.now in
    let k = c.args.self in
    let says = FnOnceReturnsAt g.F.FnOnce c.args.check_crl k.signed.cert in
    let role = g.T.Attested.role in
    refused role (g.T.Attested.passes says k.content) (g.T.Attested.fails says k.content) d v c.args.strict c.args.now c.args.issuer.now.holder
    k.signed c.into_parts-signed.result.0 k.content c.in-Err.error c.into_parts-signed.ensures.signed c.in-Err.ensures.validates

pub returns-in-Ok-clause-processes : goal.returns-in-Ok-clause-processes
returns-in-Ok-clause-processes g c =
    let d = digests_of g.D.Digester.sha256_digest g.D.Digester.sha1_digest c.args.digester.now in
    let v = g.V.Verifier.says c.args.verifier.now in
    let k = c.args.self in
    let says = FnOnceReturnsAt g.F.FnOnce c.args.check_crl in
    let role = g.T.Attested.role in
    let issuer = c.args.issuer.now.holder in
    subst (ProcessesKind role g.T.Attested.passes g.T.Attested.fails (says k.signed.cert) d v c.args.strict c.args.now issuer k) (sym c.join_if.ensures)
    (processed role (λ x content. g.T.Attested.passes (says x) content) (λ x content. g.T.Attested.fails (says x) content) d v c.args.strict c.args.now issuer
    k.signed c.into_parts-signed.result.0 k.content c.into_parts-signed.result.1 c.in-Ok.holder c.test-tested.result
    c.into_parts-signed.ensures.signed c.into_parts-signed.ensures.content c.in-Ok.ensures.validates c.test-tested.ensures.answers)

pub returns-in-Ok-clause-outside : goal.returns-in-Ok-clause-outside
returns-in-Ok-clause-outside g c =
    let P = TellsNumbers c.args.self.signed.cert (held_by c.args.issuer.now.holder) in
    outside_joined c.into_parts-signed.result.1 P c.in-Ok.holder c.test-tested.result _ c.join_if.ensures
    (c.test-tested.ensures.outside c.args.self.signed.cert c.args.issuer.now.holder)

-- The certificate of which the caller's test is asked is the accepted object's.
pub test-tested-requires : goal.test-tested-requires
test-tested-requires g c first =
    let d = digests_of g.D.Digester.sha256_digest g.D.Digester.sha1_digest c.args.digester.now in
    let role = g.T.Attested.role in
    callable_after role g.T.Attested.before (FnOnceTakesAt g.F.FnOnce c.args.check_crl) d (g.V.Verifier.says c.args.verifier.now) c.args.strict c.args.now c.args.issuer.now.holder
    c.args.self.signed c.into_parts-signed.result.0 c.args.self.content c.into_parts-signed.result.1 c.in-Ok.holder.holder
    c.into_parts-signed.ensures.signed c.into_parts-signed.ensures.content c.in-Ok.ensures.validates c.requires first
