use Rattle.resources_ip_block.proofs.ReadLemmas.{whole_block_read}
use Rattle.resources_ip_block.proofs.block.IpBlock.from_v4_str.Goals as goal

pub returns-clause-whole : goal.returns-clause-whole
returns-clause-whole c = whole_block_read c.args.text.now c.from_family_str.result c.from_family_str.ensures
