use Rattle.std.proofs.Common.{Some, None, lit<}
use Rattle.std.proofs.lemmas.Str.Pattern.{split_parts}
use Rattle.std.proofs.lemmas.Result.{err_from_is_err_and}
use Rattle.resources_ip_prefix.specs.declared.error.FromStrError.TheVariants as Cause
use Rattle.resources_ip_prefix.specs.Address.{bits_of}
use Rattle.resources_ip_prefix.proofs.ReadLemmas.{prefix_refused, prefix_read}
use Rattle.resources_ip_prefix.proofs.prefix.Prefix.from_family_str.Goals as goal

pub returns-in_default-clause-reads : goal.returns-in_default-clause-reads
returns-in_default-clause-reads c =
    prefix_refused c.args.family c.args.text.now Cause.MissingSeparator (split_parts 47 c.args.text.now None c.in_default.ensures.cases (lit< tt))

pub returns-in_err-addr-clause-reads : goal.returns-in_err-addr-clause-reads
returns-in_err-addr-clause-reads c =
    let p = err_from_is_err_and c.from_residual.result c.from_residual.ensures.1 in
    let parts = split_parts 47 c.args.text.now (Some (c.in-Some.address, c.in-Some.digits)) c.in-Some.ensures.cases (lit< tt) in
    rw (p.1, p.2, c.in_err-addr.ensures.0)
    (prefix_refused c.args.family c.args.text.now Cause.Addr (c.in-Some.address.now, c.in-Some.digits.now, record { whole = parts.0; first = parts.1 }, c.in_err-addr.ensures.1))

pub returns-in_err-len-clause-reads : goal.returns-in_err-len-clause-reads
returns-in_err-len-clause-reads c =
    let p = err_from_is_err_and c.from_residual-in_err-len.result c.from_residual-in_err-len.ensures.1 in
    let parts = split_parts 47 c.args.text.now (Some (c.in-Some.address, c.in-Some.digits)) c.in-Some.ensures.cases (lit< tt) in
    rw (p.1, p.2, c.in_err-len.ensures.read.0)
    (prefix_refused c.args.family c.args.text.now Cause.PrefixLen (c.in-Some.address.now, c.in-Some.digits.now, bits_of c.in_ok-addr.addr, record { whole = parts.0; first = parts.1 }, c.in_ok-addr.ensures, c.in_err-len.ensures.read.1))

pub returns-clause-reads : goal.returns-clause-reads
returns-clause-reads c =
    let parts = split_parts 47 c.args.text.now (Some (c.in-Some.address, c.in-Some.digits)) c.in-Some.ensures.cases (lit< tt) in
    rw c.new.ensures.len
    (prefix_read c.args.family c.args.text.now c.in-Some.address.now c.in-Some.digits.now (bits_of c.in_ok-addr.addr) c.in_ok-len.len _ (record { whole = parts.0; first = parts.1 }) c.in_ok-addr.ensures c.in_ok-len.ensures.read c.new.ensures.addr)
