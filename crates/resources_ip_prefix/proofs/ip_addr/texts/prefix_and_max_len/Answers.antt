use Rattle.std.proofs.Common.{Some, None, Ok, Err, lit<, sym, subst}
use Rattle.std.specs.Str.Parse.{ParsesUnsigned}
use Rattle.std.proofs.lemmas.Str.Pattern.{split_parts}
use Rattle.std.proofs.lemmas.Result.{err_from_is_err_and}
use Rattle.resources_ip_prefix.specs.declared.ip_addr.error.ParseMaxLenPrefixError.TheVariants.{InvalidMaxLenFormat}
use Rattle.resources_ip_prefix.proofs.AddrTexts.{mapped}
use Rattle.resources_ip_prefix.proofs.MaxLenTexts.{fault_alone, fault_before}
use Rattle.resources_ip_prefix.proofs.ip_addr.texts.prefix_and_max_len.Goals as goal

pub returns-in_err-prefix_part : goal.returns-in_err-prefix_part
returns-in_err-prefix_part c =
    let p = err_from_is_err_and c.from_residual.result c.from_residual.ensures.1 in
    let none = split_parts 45 c.args.text.now None c.in_default.ensures.cases (lit< tt) in
    rw (p.1, p.2) (fault_alone c.args.text.now _ none c.in_err-prefix_part.ensures)

pub returns-in_default : goal.returns-in_default
returns-in_default c =
    (split_parts 45 c.args.text.now None c.in_default.ensures.cases (lit< tt), c.in_ok-prefix_part.ensures)

pub returns-in_err-prefix : goal.returns-in_err-prefix
returns-in_err-prefix c =
    let p = err_from_is_err_and c.from_residual-in_err-prefix.result c.from_residual-in_err-prefix.ensures.1 in
    let parts = split_parts 45 c.args.text.now (Some (c.in-Some.prefix, c.in-Some.digits)) c.in-Some.ensures.cases (lit< tt) in
    rw (p.1, p.2)
    (fault_before c.args.text.now c.in-Some.prefix.now c.in-Some.digits.now _ (record { whole = parts.0; first = parts.1 }) c.in_err-prefix.ensures)

pub returns-in_err-max_len : goal.returns-in_err-max_len
returns-in_err-max_len c =
    let p = err_from_is_err_and c.from_residual-in_err-max_len.result c.from_residual-in_err-max_len.ensures.1 in
    let parts = split_parts 45 c.args.text.now (Some (c.in-Some.prefix, c.in-Some.digits)) c.in-Some.ensures.cases (lit< tt) in
    let m = mapped InvalidMaxLenFormat c.from_str.result (Err c.in_err-max_len.field-0.0) c.in_err-max_len.ensures.cases in
    let none = subst (ParsesUnsigned 8 10 c.in-Some.digits.now) m.1 c.from_str.ensures.0 in
    rw (p.1, p.2, m.2) (
      c.in-Some.prefix.now,
      c.in-Some.digits.now,
      c.in_ok-prefix.prefix,
      record { whole = parts.0; first = parts.1 },
      c.in_ok-prefix.ensures,
      λ n h. none (h.numeral, rw h.value h.fits),
    )

pub returns : goal.returns
returns c =
    let parts = split_parts 45 c.args.text.now (Some (c.in-Some.prefix, c.in-Some.digits)) c.in-Some.ensures.cases (lit< tt) in
    let read = mapped InvalidMaxLenFormat c.from_str.result (Ok c.in_ok-max_len.max_len) c.in_ok-max_len.ensures.cases in
    let number = subst (ParsesUnsigned 8 10 c.in-Some.digits.now) read c.from_str.ensures.0 in (
      c.in-Some.prefix.now,
      c.in-Some.digits.now,
      record { whole = parts.0; first = parts.1 },
      c.in_ok-prefix.ensures,
      record { numeral = number.0.0; value = sym number.1; fits = rw number.1 number.0.1 },
    )
