use Rattle.objects.proofs.Standing.{object_stands}
use Rattle.objects.proofs.again.laws.what_is_read_stands_in_der.Goals as goal

pub returns : goal.returns
returns c = object_stands
