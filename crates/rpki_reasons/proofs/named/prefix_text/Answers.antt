use Rattle.std.proofs.Common.{rules}
use Rattle.std.specs.Net.Addr.{IsIpv4OfBits, IsIpv6OfBits}
use Rattle.rpki_reasons.proofs.named.prefix_text.Goals as goal

pub returns-in-Ipv4 : goal.returns-in-Ipv4
unfolding IsIpv4OfBits
returns-in-Ipv4 c = search rules

pub returns-in-Ipv6 : goal.returns-in-Ipv6
unfolding IsIpv6OfBits
returns-in-Ipv6 c = search rules
