use Rattle.resources_ip_prefix.proofs.ReadLemmas.{short_whole}
use Rattle.resources_ip_prefix.proofs.prefix.Prefix.from_v4_str.Goals as goal

pub returns-clause-whole : goal.returns-clause-whole
returns-clause-whole c = short_whole c.from_family_str.result c.from_family_str.ensures.len
