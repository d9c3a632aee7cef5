use Rattle.objects_payload.proofs.RelaxedCerts.{certs_stay, names_stay}
use Rattle.objects_payload.proofs.relaxed.names_and_certs_stay.Goals as goal

pub returns : goal.returns
returns c = record { names = names_stay; certs = certs_stay }
