use Rattle.std.proofs.Common.{arith}
use Rattle.resources_ip_prefix.proofs.AddrSpans.{last_below}
use Rattle.resources_ip_prefix.proofs.ip_addr.prefix.Prefix.last.Goals as goal

pub overflow_add-result : goal.overflow_add-result
overflow_add-result c =
    grind (arith, last_below _ c.self.invariant, c.host_mask.ensures, c.width.ensures)

pub returns-clause-within : goal.returns-clause-within
returns-clause-within c = rw (← c.self.view_is) (last_below _ c.self.invariant).0
