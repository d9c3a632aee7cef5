use Rattle.std.proofs.Common.{◌<◌, ◌^◌, ap, arith}
use Rattle.resources_ip_prefix.specs.Address.{bits_of, bits_within}
use Rattle.resources_ip_prefix.specs.Prefix.{prefix_addr, prefix_len, host_clear}
use Rattle.resources_ip_prefix.proofs.WideLemmas.{v4_from}
use Rattle.resources_ip_prefix.proofs.convert.to_v4.Goals as goal

pub returns-in-Ok : goal.returns-in-Ok
returns-in-Ok c =
    let p = c.args.prefix in
    let within : bits_of (prefix_addr p) < 2 ^ 128 = omega (arith, bits_within (prefix_addr p)) in
    v4_from c.to_v4.result c.in-Ok.prefix (bits_of c.addr.result) (bits_of (prefix_addr p)) c.addr_len.result (prefix_len p) c.to_v4.ensures (ap bits_of c.addr.ensures) c.addr_len.ensures.value within (host_clear p) c.in-Ok.ensures
