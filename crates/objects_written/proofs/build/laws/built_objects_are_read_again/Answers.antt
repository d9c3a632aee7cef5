use Rattle.objects_written.proofs.BuiltAgain.{built_again}
use Rattle.objects_written.proofs.build.laws.built_objects_are_read_again.Goals as goal

pub returns : goal.returns
returns c = built_again c.what_is_built_is_read.ensures.spelled c.what_is_built_is_read.ensures.stay
