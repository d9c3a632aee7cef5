use Rattle.std.proofs.Common.{◌^◌, ◌<◌, subst}
use Rattle.resources_ip_prefix.specs.AddrPrefixes.{width}
use Rattle.resources_ip_prefix.specs.Held.{family_in}
use Rattle.resources_ip_prefix.specs.declared.ip_addr.prefix.Kind.{Kind}
use Rattle.resources_ip_prefix.proofs.Numbers.{ipv4_is, ipv6_is}
use Rattle.resources_ip_prefix.proofs.ip_addr.prefix.address.Goals as goal

pub returns-in-V4-clause-bits : goal.returns-in-V4-clause-bits
returns-in-V4-clause-bits c =
    let fits : c.args.bits < 2 ^ 32 = subst (λ (k : Kind). c.args.bits < 2 ^ width (family_in k)) c.in-V4.is c.requires in
    ipv4_is c.from_bits.result c.args.bits fits c.from_bits.ensures

pub returns-in-V6-clause-bits : goal.returns-in-V6-clause-bits
returns-in-V6-clause-bits c =
    let fits : c.args.bits < 2 ^ 128 = subst (λ (k : Kind). c.args.bits < 2 ^ width (family_in k)) c.in-V6.is c.requires in
    ipv6_is c.from_bits-in-V6.result c.args.bits fits c.from_bits-in-V6.ensures
