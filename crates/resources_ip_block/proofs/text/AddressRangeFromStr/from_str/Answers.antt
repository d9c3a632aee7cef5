use Rattle.std.proofs.Common.{◌≡◌, ◌≢◌, Some, None, lit<, sym, subst, rules}
use Rattle.std.proofs.lemmas.Str.Pattern.{split_parts}
use Rattle.resources_ip_prefix.specs.declared.addr.AddressFamily.{AddressFamily}
use Rattle.resources_ip_prefix.specs.declared.error.FromStrError.TheVariants as Cause
use Rattle.resources_ip_prefix.specs.ReadTexts.{Shows}
use Rattle.resources_ip_prefix.proofs.ReadLemmas.{shown_by}
use Rattle.resources_ip_block.proofs.ReadLemmas.{any_range_refused, range_of_any, apart}
use Rattle.resources_ip_block.proofs.text.AddressRangeFromStr.from_str.Goals as goal

pub returns-in_default : goal.returns-in_default
returns-in_default c =
    any_range_refused c.args.text.now Cause.MissingSeparator (split_parts 45 c.args.text.now None c.in_default.ensures.cases (lit< tt))

pub returns-then-eq : goal.returns-then-eq
returns-then-eq c =
    let parts = split_parts 45 c.args.text.now (Some (c.in-Some.min, c.in-Some.max)) c.in-Some.ensures.cases (lit< tt) in
    let same : c.of_text-family.result ≡ c.of_text-other.result = search rules in
    let first = shown_by c.of_text-family.result c.in-Some.min.now c.of_text-family.ensures in
    let last = shown_by c.of_text-other.result c.in-Some.max.now c.of_text-other.ensures in
    range_of_any c.of_text-family.result c.args.text.now c.in-Some.min.now c.in-Some.max.now c.from_family_str.result (record { whole = parts.0; first = parts.1 }) first (subst (λ (f : AddressFamily). Shows f c.in-Some.max.now) (sym same) last) c.from_family_str.ensures

pub returns-else-eq : goal.returns-else-eq
returns-else-eq c =
    let parts = split_parts 45 c.args.text.now (Some (c.in-Some.min, c.in-Some.max)) c.in-Some.ensures.cases (lit< tt) in
    let other : c.of_text-family.result ≢ c.of_text-other.result = search rules in
    let first = shown_by c.of_text-family.result c.in-Some.min.now c.of_text-family.ensures in
    let last = shown_by c.of_text-other.result c.in-Some.max.now c.of_text-other.ensures in
    any_range_refused c.args.text.now Cause.FamilyMismatch (c.in-Some.min.now, c.in-Some.max.now, record { whole = parts.0; first = parts.1 }, apart c.of_text-family.result c.of_text-other.result c.in-Some.min.now c.in-Some.max.now other first last)
