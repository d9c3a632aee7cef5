use Rattle.objects_rta.proofs.Checking.{attestation_one}
use Rattle.objects_rta.proofs.laws.one_attestation.Goals as goal

pub returns : goal.returns
returns c = attestation_one
