use Rattle.std.proofs.Common.{◌≡◌, true, false, lit<, inl, inr, refl, sym, ◌∙◌}
use Rattle.std.proofs.lemmas.Str.Pattern.{contains_char}
use Rattle.std.proofs.lemmas.Result.{err_from_is_err_and}
use Rattle.resources_ip_prefix.specs.Address.{bits_of}
use Rattle.resources_ip_prefix.specs.Prefix.{prefix_addr, prefix_len}
use Rattle.resources_ip_prefix.proofs.ReadLemmas.{shown_by}
use Rattle.resources_ip_block.proofs.ReadLemmas.{any_block_refused}
use Rattle.resources_ip_block.proofs.text.IpBlockFromStr.from_str.Goals as goal

pub returns-in_err-prefix : goal.returns-in_err-prefix
returns-in_err-prefix c =
    let p = err_from_is_err_and c.from_residual.result c.from_residual.ensures.1 in
    let there = (contains_char 47 c.args.text.now c.contains.result c.contains.ensures.cases (lit< tt)).0 c.if-contains.true in
    let shows = shown_by c.of_text-family.result c.args.text.now c.of_text-family.ensures in
    rw (p.1, p.2)
    (any_block_refused c.args.text.now _ (inl (λ lacks. lacks there.0 there.1 there.2, (c.of_text-family.result, shows, c.in_err-prefix.ensures.reads.0))))

pub returns-then-contains : goal.returns-then-contains
returns-then-contains c = (
  c.of_text-family.result,
  inl (bits_of (prefix_addr c.in_ok-prefix.prefix), prefix_len c.in_ok-prefix.prefix, c.in_ok-prefix.ensures.reads, refl),
)

pub returns-in_err-range : goal.returns-in_err-range
returns-in_err-range c =
    let p = err_from_is_err_and c.from_residual-in_err-range.result c.from_residual-in_err-range.ensures.1 in
    let there = (contains_char 47 c.args.text.now c.contains.result c.contains.ensures.cases (lit< tt)).1 in
    rw (p.1, p.2)
    (any_block_refused c.args.text.now _ (inr (λ k h e. absurd (let wrong : true ≡ false = sym (there k h e) ∙ c.if-contains.false in cc), c.in_err-range.ensures.value.0)))

pub returns : goal.returns
returns c =
    let there = (contains_char 47 c.args.text.now c.contains.result c.contains.ensures.cases (lit< tt)).1 in
    let read = c.in_ok-range.ensures.value in
    (read.0, inr (λ k h e. absurd (let wrong : true ≡ false = sym (there k h e) ∙ c.if-contains.false in cc), read.1))
