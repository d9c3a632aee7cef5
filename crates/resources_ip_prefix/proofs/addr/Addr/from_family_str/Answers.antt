use Rattle.std.proofs.Common.{refl}
use Rattle.std.proofs.lemmas.Result.{err_from_is_err_and}
use Rattle.resources_ip_prefix.proofs.ReadLemmas.{v4_read, v6_read, v4_refused, v6_refused}
use Rattle.resources_ip_prefix.proofs.addr.Addr.from_family_str.Goals as goal

pub returns-in_err-from_v4_str-in-Ipv4 : goal.returns-in_err-from_v4_str-in-Ipv4
returns-in_err-from_v4_str-in-Ipv4 c =
    let p = err_from_is_err_and c.from_residual.result c.from_residual.ensures.1 in
    rw (p.1, p.2) (refl, v4_refused c.args.family c.args.text.now c.in-Ipv4.is c.in_err-from_v4_str-in-Ipv4.ensures)

pub returns-in_ok-from_v4_str-in-Ipv4 : goal.returns-in_ok-from_v4_str-in-Ipv4
returns-in_ok-from_v4_str-in-Ipv4 c =
    let read = c.in_ok-from_v4_str-in-Ipv4.ensures in v4_read c.args.family c.args.text.now read.0 _ c.in-Ipv4.is read.1 read.2

pub returns-in_err-from_v6_str-in-Ipv6 : goal.returns-in_err-from_v6_str-in-Ipv6
returns-in_err-from_v6_str-in-Ipv6 c =
    let p = err_from_is_err_and c.from_residual-in_err-from_v6_str-in-Ipv6.result c.from_residual-in_err-from_v6_str-in-Ipv6.ensures.1 in
    rw (p.1, p.2) (refl, v6_refused c.args.family c.args.text.now c.in-Ipv6.is c.in_err-from_v6_str-in-Ipv6.ensures)

pub returns-in_ok-from_v6_str-in-Ipv6 : goal.returns-in_ok-from_v6_str-in-Ipv6
returns-in_ok-from_v6_str-in-Ipv6 c =
    let read = c.in_ok-from_v6_str-in-Ipv6.ensures in v6_read c.args.family c.args.text.now read.0 _ c.in-Ipv6.is read.1 read.2
