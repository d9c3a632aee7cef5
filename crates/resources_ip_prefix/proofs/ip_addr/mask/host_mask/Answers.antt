use Rattle.std.proofs.Common.{ap, ℕ, ◌-◌}
use Rattle.resources_ip_prefix.proofs.AddrSpans.{mask_is}
use Rattle.resources_ip_prefix.proofs.ip_addr.mask.host_mask.Goals as goal

pub returns-in_default : goal.returns-in_default
returns-in_default c = mask_is c.args.host _ c.requires (ap (λ (h : ℕ). 128 - h) c.from.ensures)
