use Rattle.std.proofs.Common.{arith}
use Rattle.resources_ip_prefix.proofs.Masks.{ones_left}
use Rattle.resources_ip_prefix.proofs.addr.host_mask.Goals as goal

pub returns : goal.returns
returns c = ones_left c.args.prefix_len (omega (arith, c.if-prefix_len-ge128.false))
