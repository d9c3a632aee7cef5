use Rattle.std.proofs.Common.{refl}
use Rattle.resources_ip_block.proofs.CoverLemmas.{covers}
use Rattle.resources_ip_block.proofs.range.AddressRange.to_v6_prefixes.Goals as goal

pub returns : goal.returns
returns c = covers _ c.args.self refl
