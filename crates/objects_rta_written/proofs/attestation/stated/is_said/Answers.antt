use Rattle.objects_rta_written.proofs.Writing.{says}
use Rattle.objects_rta_written.proofs.attestation.stated.is_said.Goals as goal

pub returns : goal.returns
returns c = says _ _ c.is_present.ensures
