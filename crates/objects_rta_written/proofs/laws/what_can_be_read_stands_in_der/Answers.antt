use Rattle.objects_rta_written.proofs.ObjectAgain.{readable_stands}
use Rattle.objects_rta_written.proofs.laws.what_can_be_read_stands_in_der.Goals as goal

pub returns : goal.returns
returns c = readable_stands
