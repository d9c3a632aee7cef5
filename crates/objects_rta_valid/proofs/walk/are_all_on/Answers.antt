use Rattle.objects_rta_valid.proofs.Answering.{off_told}
use Rattle.objects_rta_valid.proofs.walk.are_all_on.Goals as goal

pub returns : goal.returns
returns c = off_told c.args.paths.now c.first_off-off.result c.is_none.result c.is_none.ensures c.first_off-off.ensures
