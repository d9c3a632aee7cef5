use Rattle.objects_rta_written.proofs.Making.{begun_refused}
use Rattle.objects_rta_written.proofs.builder.AttestationBuilder.into_rta_builder.Goals as goal

pub returns-in-Err-clause-refused : goal.returns-in-Err-clause-refused
returns-in-Err-clause-refused c =
    begun_refused c.args.self c.in_ok-attestation.attestation c.in_ok-attestation.ensures.made c.in-Err.error c.cause_of.result c.cause_of.ensures c.in-Err.ensures.refused
