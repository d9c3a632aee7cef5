use Rattle.objects_written.proofs.BuiltAgain.{built_sound}
use Rattle.objects_written.proofs.build.laws.built_objects_are_sound.Goals as goal

pub returns : goal.returns
returns c = built_sound
