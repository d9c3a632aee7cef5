use Rattle.objects_written.proofs.Again.{attributes_again}
use Rattle.objects_written.proofs.frame.laws.attributes_are_read_again.Goals as goal

pub returns : goal.returns
returns c = attributes_again
