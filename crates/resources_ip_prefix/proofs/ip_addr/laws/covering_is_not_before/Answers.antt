use Rattle.resources_ip_prefix.proofs.PrefixLaws.{not_before}
use Rattle.resources_ip_prefix.proofs.ip_addr.laws.covering_is_not_before.Goals as goal

pub returns : goal.returns
returns c = not_before
