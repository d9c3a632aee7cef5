use Rattle.std.proofs.Common.{◌≡◌, ◌≤◌, ◌-◌, ◌⊎◌, ℕ, ap, ◌∙◌, arith, rules}
use Rattle.std.specs.Int.Count.{count_trailing_zeros}
use Rattle.resources_ip_prefix.specs.Prefixes.{first_of}
use Rattle.resources_ip_block.specs.Range.{run_of_range}
use Rattle.resources_ip_block.proofs.Counting.{first_is}
use Rattle.resources_ip_block.proofs.range.AddressRange.first_prefix.Goals as goal

pub returns : goal.returns
returns c =
    let r = run_of_range c.args.self in
    let fitting = c.fitting_bits-fitting.ensures in
    let free : ℕ = c.min-3.result in
    let clear : free ≤ count_trailing_zeros 128 r.first = search rules in
    let fits : free ≤ c.fitting_bits-fitting.result = search rules in
    let whole : (count_trailing_zeros 128 r.first ≤ free) ⊎ (c.fitting_bits-fitting.result ≤ free) = search rules in
    let first : c.to_bits-first.result ≡ r.first = c.to_bits-first.ensures ∙ c.min.ensures.value in
    let last : c.to_bits.result ≡ r.last = c.to_bits.ensures ∙ c.max.ensures.value in
    first_is r c.new.result free c.fitting_bits-fitting.result clear fits whole c.args.self.ordered
    (omega (arith, fitting.fits, first, last))
    (λ k short le. fitting.most k short (omega (arith, le, first, last)))
    (c.new.ensures.addr ∙ ap (λ (n : ℕ). first_of (128 - free) n) c.min-2.ensures.value) c.new.ensures.len
