use Rattle.std.proofs.Common.{true}
use Rattle.rpki_steps.specs.certs_extension.Calls.{ValidatesAnchor}
use Rattle.rpki_standing.specs.Readers.{world_by}
use Rattle.rpki_steps.proofs.FoundAnchor.{accepted, other_key, refused}
use Rattle.rpki_steps.proofs.Refusing.{is_refusal}
use Rattle.rpki_steps.proofs.anchor.cert.anchor_cert.Goals as goal

pub returns-then-not-has_key-clause-found : goal.returns-then-not-has_key-clause-found
returns-then-not-has_key-clause-found g c =
    let w = world_by g.D.Digester.sha256_digest g.D.Digester.sha1_digest g.V.Verifier.says c.args.reader.now in
    other_key w c.args.key.now c.args.cert (λ k. let t = c.has_key.ensures.1 k in let f = c.if-not-has_key.true in absurd cc)

pub returns-in-Ok-clause-found : goal.returns-in-Ok-clause-found
returns-in-Ok-clause-found g c =
    accepted _ c.args.key.now c.args.cert (c.has_key.ensures.0 c.if-not-has_key.false) c.moment-now.result c.moment-now.ensures c.args.tal.value c.validate_ta_at-validated.result c.in-Ok.anchor c.validate_ta_at-validated.ensures.validates c.validate_ta_at-validated.ensures.tal
    (rw c.in-Ok.is at c.in_ok-anchor.ensures)

pub cert_test-test-requires : goal.cert_test-test-requires
cert_test-test-requires g c =
    let w = world_by g.D.Digester.sha256_digest g.D.Digester.sha1_digest g.V.Verifier.says c.args.reader.now in
    is_refusal (ValidatesAnchor w.digests w.good true c.moment-now.result c.args.cert) c.validate_ta_at-validated.result c.in-Err.error c.validate_ta_at-validated.ensures.validates
    (rw c.in-Err.is at c.in_ok-anchor.ensures)

pub returns-in-Err-clause-found : goal.returns-in-Err-clause-found
returns-in-Err-clause-found g c =
    let w = world_by g.D.Digester.sha256_digest g.D.Digester.sha1_digest g.V.Verifier.says c.args.reader.now in
    refused w c.args.key.now c.args.cert (c.has_key.ensures.0 c.if-not-has_key.false) c.moment-now.result c.moment-now.ensures c.validate_ta_at-validated.result c.in-Err.error c.cert_test-test.result c.validate_ta_at-validated.ensures.validates
    (rw c.in-Err.is at c.in_ok-anchor.ensures) c.cert_test-test.ensures
