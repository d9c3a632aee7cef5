use Rattle.std.proofs.Common.{◌≡◌, true, false, ◌<◌, ◌≤◌, Some, None, lit<, inl, inr, refl, sym, ◌∙◌, rules}
use Rattle.std.proofs.lemmas.Str.Pattern.{split_parts, contains_char}
use Rattle.std.proofs.lemmas.Result.{err_from_is_err_and}
use Rattle.resources_asn.specs.declared.as_block.error.FromStrError.TheVariants.{BadAsn}
use Rattle.resources_asn.proofs.BlockTexts.{refused, second_dash, turned_ends, range_read}
use Rattle.resources_asn.proofs.as_block.text.AsBlockFromStr.from_str.Goals as goal

pub returns-in_err-asn : goal.returns-in_err-asn
returns-in_err-asn c =
    let p = err_from_is_err_and c.from_residual.result c.from_residual.ensures.1 in
    let none = split_parts 45 c.args.text.now None c.in_default.ensures.cases (lit< tt) in
    rw (p.1, p.2) (refused c.args.text.now BadAsn (inl (none, c.in_err-asn.ensures.value)))

pub returns-in_default : goal.returns-in_default
returns-in_default c = inl (c.in_ok-asn.ensures.value, refl)

pub returns-then-contains : goal.returns-then-contains
returns-then-contains c =
    let parts = split_parts 45 c.args.text.now (Some (c.in-Some.min, c.in-Some.max)) c.in-Some.ensures.cases (lit< tt) in
    let there = (contains_char 45 c.in-Some.max.now c.contains.result c.contains.ensures.cases (lit< tt)).0 c.if-contains.true in
    second_dash c.args.text.now c.in-Some.min.now c.in-Some.max.now (record { whole = parts.0; first = parts.1 }) there.0 there.1 there.2

pub returns-in_err-first : goal.returns-in_err-first
returns-in_err-first c =
    let p = err_from_is_err_and c.from_residual-in_err-first.result c.from_residual-in_err-first.ensures.1 in
    let parts = split_parts 45 c.args.text.now (Some (c.in-Some.min, c.in-Some.max)) c.in-Some.ensures.cases (lit< tt) in
    let there = (contains_char 45 c.in-Some.max.now c.contains.result c.contains.ensures.cases (lit< tt)).1 in
    rw (p.1, p.2) (refused c.args.text.now BadAsn (inr (
      c.in-Some.min.now,
      c.in-Some.max.now,
      record { whole = parts.0; first = parts.1 },
      λ k h e. absurd (let wrong : true ≡ false = sym (there k h e) ∙ c.if-contains.false in cc),
      inl c.in_err-first.ensures.value,
    )))

pub returns-in_err-last : goal.returns-in_err-last
returns-in_err-last c =
    let p = err_from_is_err_and c.from_residual-in_err-last.result c.from_residual-in_err-last.ensures.1 in
    let parts = split_parts 45 c.args.text.now (Some (c.in-Some.min, c.in-Some.max)) c.in-Some.ensures.cases (lit< tt) in
    let there = (contains_char 45 c.in-Some.max.now c.contains.result c.contains.ensures.cases (lit< tt)).1 in
    rw (p.1, p.2) (refused c.args.text.now BadAsn (inr (
      c.in-Some.min.now,
      c.in-Some.max.now,
      record { whole = parts.0; first = parts.1 },
      λ k h e. absurd (let wrong : true ≡ false = sym (there k h e) ∙ c.if-contains.false in cc),
      inr c.in_err-last.ensures.value,
    )))

pub returns-then-lt : goal.returns-then-lt
returns-then-lt c =
    let parts = split_parts 45 c.args.text.now (Some (c.in-Some.min, c.in-Some.max)) c.in-Some.ensures.cases (lit< tt) in
    let turned : c.in_ok-last.last.value < c.in_ok-first.first.value = search rules in
    turned_ends c.args.text.now c.in-Some.min.now c.in-Some.max.now c.in_ok-first.first.value c.in_ok-last.last.value (record { whole = parts.0; first = parts.1 }) c.in_ok-first.ensures.value c.in_ok-last.ensures.value turned

pub returns : goal.returns
returns c =
    let parts = split_parts 45 c.args.text.now (Some (c.in-Some.min, c.in-Some.max)) c.in-Some.ensures.cases (lit< tt) in
    let ordered : c.in_ok-first.first.value ≤ c.in_ok-last.last.value = search rules in
    rw (c.new.ensures.first, c.new.ensures.last) (range_read c.args.text.now c.in-Some.min.now c.in-Some.max.now c.in_ok-first.first.value c.in_ok-last.last.value (record { whole = parts.0; first = parts.1 }) c.in_ok-first.ensures.value c.in_ok-last.ensures.value ordered)
