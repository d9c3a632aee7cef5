use Rattle.objects_rta_written.proofs.ContentAgain.{content_again}
use Rattle.objects_rta_written.proofs.laws.contents_are_read_again.Goals as goal

pub returns : goal.returns
returns c = content_again
