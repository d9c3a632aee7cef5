use Rattle.objects_written.proofs.Taking.{takes}
use Rattle.objects_written.proofs.der.take_all.Goals as goal

pub returns : goal.returns
returns g c = takes _ _ c.capture_all.result c.capture_all.ensures.captured c.capture_all.ensures.refused
