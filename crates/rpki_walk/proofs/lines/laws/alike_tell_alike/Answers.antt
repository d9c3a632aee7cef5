use Rattle.rpki_walk.proofs.Alike.{alike_tell_alike}
use Rattle.rpki_walk.proofs.lines.laws.alike_tell_alike.Goals as goal

pub returns : goal.returns
returns c = alike_tell_alike
