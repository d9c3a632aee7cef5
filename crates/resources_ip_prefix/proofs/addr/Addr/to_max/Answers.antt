use Rattle.std.proofs.Common.{◌∙◌}
use Rattle.resources_ip_prefix.proofs.Masks.{set}
use Rattle.resources_ip_prefix.proofs.addr.Addr.to_max.Goals as goal

pub returns : goal.returns
returns c = c.from_bits.ensures ∙ rw (c.host_mask.ensures, c.to_bits.ensures) (set _ _)
