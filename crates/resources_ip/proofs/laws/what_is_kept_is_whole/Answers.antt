use Rattle.resources_ip.proofs.WideSets.{kept_whole}
use Rattle.resources_ip.proofs.laws.what_is_kept_is_whole.Goals as goal

pub returns : goal.returns
returns c = kept_whole
