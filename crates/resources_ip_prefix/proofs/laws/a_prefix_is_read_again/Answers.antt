use Rattle.resources_ip_prefix.proofs.Told.{prefix_read}
use Rattle.resources_ip_prefix.proofs.laws.a_prefix_is_read_again.Goals as goal

pub returns : goal.returns
returns c = prefix_read
