use Rattle.std.proofs.Common.{true}
use Rattle.rpki_steps.specs.certs_extension.Calls.{ValidatesIssued}
use Rattle.rpki_steps.specs.certs_extension.declared.forms.Role.TheVariants.{Ca}
use Rattle.rpki_standing.specs.Readers.{world_by}
use Rattle.rpki_steps.proofs.FoundBelow.{accepted, refused}
use Rattle.rpki_steps.proofs.Refusing.{is_refusal}
use Rattle.rpki_steps.proofs.issued.below.authority_below.Goals as goal

pub returns-in-Ok-clause-found : goal.returns-in-Ok-clause-found
returns-in-Ok-clause-found g c =
    accepted _ c.args.issuer.now c.args.cert c.moment-now.result c.moment-now.ensures c.validate_ca_at-validated.result c.in-Ok.found c.validate_ca_at-validated.ensures.validates c.validate_ca_at-validated.ensures.tal
    (rw c.in-Ok.is at c.in_ok-found.ensures)

pub cer_test-requires : goal.cer_test-requires
cer_test-requires g c =
    let w = world_by g.D.Digester.sha256_digest g.D.Digester.sha1_digest g.V.Verifier.says c.args.reader.now in
    is_refusal (ValidatesIssued w.digests w.good true Ca c.moment-now.result c.args.issuer.now.holder c.args.cert) c.validate_ca_at-validated.result c.in-Err.error c.validate_ca_at-validated.ensures.validates
    (rw c.in-Err.is at c.in_ok-found.ensures)

pub returns-in-Err-clause-found : goal.returns-in-Err-clause-found
returns-in-Err-clause-found g c =
    refused _ c.args.issuer.now c.args.cert c.moment-now.result c.moment-now.ensures c.validate_ca_at-validated.result c.in-Err.error c.cer_test.result c.validate_ca_at-validated.ensures.validates c.validate_ca_at-validated.ensures.outside
    (rw c.in-Err.is at c.in_ok-found.ensures) c.cer_test.ensures.test c.cer_test.ensures.claim
