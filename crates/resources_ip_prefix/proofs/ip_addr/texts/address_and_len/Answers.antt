use Rattle.std.proofs.Common.{Some, None, Ok, Err, lit<, sym, arith, refl, subst}
use Rattle.std.proofs.lemmas.Result.{err_from_is_err_and, MatchResult-at_ok, MatchResult-at_err}
use Rattle.std.specs.Str.Parse.{ParsesUnsigned}
use Rattle.std.proofs.lemmas.Str.Pattern.{split_parts}
use Rattle.resources_ip_prefix.specs.declared.ip_addr.error.ParsePrefixError.TheVariants.{InvalidAddr, InvalidLen}
use Rattle.resources_ip_prefix.proofs.AddrTexts.{mapped}
use Rattle.resources_ip_prefix.proofs.ip_addr.texts.address_and_len.Goals as goal

pub returns-in_default : goal.returns-in_default
returns-in_default c = (grind (arith, c.if-is_empty.false), split_parts 47 c.args.text.now None c.in_default.ensures.cases (lit< tt))

pub returns-in_err-addr : goal.returns-in_err-addr
returns-in_err-addr c =
    let p = err_from_is_err_and c.from_residual.result c.from_residual.ensures.1 in
    let parts = split_parts 47 c.args.text.now (Some (c.in-Some.address, c.in-Some.digits)) c.in-Some.ensures.cases (lit< tt) in
    let m = mapped InvalidAddr c.from_str.result (Err c.in_err-addr.field-0.0) c.in_err-addr.ensures.cases in
    rw (p.1, p.2, m.2) (
      c.in-Some.address.now,
      c.in-Some.digits.now,
      record { whole = parts.0; first = parts.1 },
      MatchResult-at_err _ _ m.0 m.1 c.from_str.ensures,
    )

pub returns-in_err-len : goal.returns-in_err-len
returns-in_err-len c =
    let p = err_from_is_err_and c.from_residual-in_err-len.result c.from_residual-in_err-len.ensures.1 in
    let parts = split_parts 47 c.args.text.now (Some (c.in-Some.address, c.in-Some.digits)) c.in-Some.ensures.cases (lit< tt) in
    let a = mapped InvalidAddr c.from_str.result (Ok c.in_ok-addr.addr) c.in_ok-addr.ensures.cases in
    let m = mapped InvalidLen c.from_str-2.result (Err c.in_err-len.field-0.0) c.in_err-len.ensures.cases in
    let none = subst (ParsesUnsigned 8 10 c.in-Some.digits.now) m.1 c.from_str-2.ensures.0 in
    rw (p.1, p.2, m.2) (
      c.in-Some.address.now,
      c.in-Some.digits.now,
      c.in_ok-addr.addr,
      record { whole = parts.0; first = parts.1 },
      MatchResult-at_ok _ _ c.in_ok-addr.addr a c.from_str.ensures,
      λ n h. none (h.numeral, rw h.value h.fits),
    )

pub returns : goal.returns
returns c =
    let parts = split_parts 47 c.args.text.now (Some (c.in-Some.address, c.in-Some.digits)) c.in-Some.ensures.cases (lit< tt) in
    let a = mapped InvalidAddr c.from_str.result (Ok c.in_ok-addr.addr) c.in_ok-addr.ensures.cases in
    let read = mapped InvalidLen c.from_str-2.result (Ok c.in_ok-len.len) c.in_ok-len.ensures.cases in
    let number = subst (ParsesUnsigned 8 10 c.in-Some.digits.now) read c.from_str-2.ensures.0 in
    record {
      address = c.in-Some.address.now;
      digits = c.in-Some.digits.now;
      addr = c.in_ok-addr.addr;
      cut = record { whole = parts.0; first = parts.1 };
      address_is = MatchResult-at_ok _ _ c.in_ok-addr.addr a c.from_str.ensures;
      family_is = refl;
      bits_are = refl;
      length_is = record { numeral = number.0.0; value = sym number.1; fits = rw number.1 number.0.1 };
    }
