use Rattle.objects_payload.proofs.RelaxedInspected.{inspected_alike, names_alike}
use Rattle.objects_payload.proofs.relaxed.inspection_answers_alike.Goals as goal

pub returns : goal.returns
returns c = record { names = names_alike; certs = inspected_alike }
