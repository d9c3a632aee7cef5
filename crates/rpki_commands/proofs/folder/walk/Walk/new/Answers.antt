use Rattle.std.proofs.Common.{refl}
use Rattle.rpki_commands.proofs.Walking.{walked_new}
use Rattle.rpki_commands.proofs.folder.walk.Walk.new.Goals as goal

pub returns : goal.returns
returns c = walked_new _ c.new.ensures.items c.new-2.ensures.items c.new-3.ensures.items refl refl
