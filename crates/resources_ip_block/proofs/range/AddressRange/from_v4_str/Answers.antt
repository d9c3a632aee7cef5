use Rattle.resources_ip_block.proofs.ReadLemmas.{whole_range_read}
use Rattle.resources_ip_block.proofs.range.AddressRange.from_v4_str.Goals as goal

pub returns-clause-whole : goal.returns-clause-whole
returns-clause-whole c = whole_range_read c.args.text.now c.from_family_str.result c.from_family_str.ensures
