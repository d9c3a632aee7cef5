use Rattle.objects_written.proofs.FrameAgain.{parts_again}
use Rattle.objects_written.proofs.frame.laws.objects_are_read_again.Goals as goal

pub returns : goal.returns
returns c = parts_again
