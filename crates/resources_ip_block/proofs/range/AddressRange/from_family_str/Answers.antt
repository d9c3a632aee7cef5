use Rattle.std.proofs.Common.{Some, None, lit<, inl, inr, ap, ◌∙◌}
use Rattle.std.proofs.lemmas.Str.Pattern.{split_parts}
use Rattle.std.proofs.lemmas.Result.{err_from_is_err_and}
use Rattle.resources_ip_prefix.specs.declared.error.FromStrError.TheVariants as Cause
use Rattle.resources_ip_prefix.specs.Address.{bits_of}
use Rattle.resources_ip_prefix.specs.Prefixes.{last_of}
use Rattle.resources_ip_block.proofs.ReadLemmas.{range_refused, ends_read}
use Rattle.resources_ip_block.proofs.range.AddressRange.from_family_str.Goals as goal

pub returns-in_default : goal.returns-in_default
returns-in_default c =
    range_refused c.args.family c.args.text.now Cause.MissingSeparator (split_parts 45 c.args.text.now None c.in_default.ensures.cases (lit< tt))

pub returns-in_err-first : goal.returns-in_err-first
returns-in_err-first c =
    let p = err_from_is_err_and c.from_residual.result c.from_residual.ensures.1 in
    let parts = split_parts 45 c.args.text.now (Some (c.in-Some.min, c.in-Some.max)) c.in-Some.ensures.cases (lit< tt) in
    rw (p.1, p.2, c.in_err-first.ensures.0)
    (range_refused c.args.family c.args.text.now Cause.Addr (c.in-Some.min.now, c.in-Some.max.now, record { whole = parts.0; first = parts.1 }, inl c.in_err-first.ensures.1))

pub returns-in_err-end : goal.returns-in_err-end
returns-in_err-end c =
    let p = err_from_is_err_and c.from_residual-in_err-end.result c.from_residual-in_err-end.ensures.1 in
    let parts = split_parts 45 c.args.text.now (Some (c.in-Some.min, c.in-Some.max)) c.in-Some.ensures.cases (lit< tt) in
    rw (p.1, p.2, c.in_err-end.ensures.0)
    (range_refused c.args.family c.args.text.now Cause.Addr (c.in-Some.min.now, c.in-Some.max.now, record { whole = parts.0; first = parts.1 }, inr c.in_err-end.ensures.1))

pub returns : goal.returns
returns c =
    let parts = split_parts 45 c.args.text.now (Some (c.in-Some.min, c.in-Some.max)) c.in-Some.ensures.cases (lit< tt) in
    ends_read c.args.family c.args.text.now c.in-Some.min.now c.in-Some.max.now (bits_of c.in_ok-first.first) (bits_of c.in_ok-end.end) (bits_of c.to_max.result) c.ordered.result (record { whole = parts.0; first = parts.1 }) c.in_ok-first.ensures c.in_ok-end.ensures
    (c.to_max.ensures ∙ ap (λ len. last_of len (bits_of c.in_ok-end.end)) c.max_addr_len.ensures) c.ordered.ensures
