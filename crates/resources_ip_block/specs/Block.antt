-- What contracts see of a block.
use Rattle.std.specs.Prelude.{◌≡◌, ◌≢◌, ℕ, ◌≤◌}
use Rattle.resources_ip_block.specs.resources_chain.Sets.{Run}
use Rattle.resources_ip_block.specs.declared.block.IpBlock.{IpBlock}
use Rattle.resources_ip_block.specs.declared.block.IpBlock.TheVariants as Of
use Rattle.resources_ip_prefix.specs.All.{last_address}
use Rattle.resources_ip_prefix.specs.Prefix.{run_of_prefix}
use Rattle.resources_ip_block.specs.Range.{run_of_range, range_within}
use Rattle.resources_ip_prefix.specs.Prefixes.{first_of, prefix_run}
use Rattle.resources_ip_prefix.specs.PrefixLaws.{prefix_within}

-- The addresses of a prefix or of a range.
abbrev pub run_of_block : IpBlock → Run
run_of_block (Of.Prefix p) = run_of_prefix p
run_of_block (Of.Range r) = run_of_range r

pub block_within : (b : IpBlock) → ((run_of_block b).first ≤ (run_of_block b).last)
    × ((run_of_block b).last ≤ last_address)
block_within (Of.Prefix p) = prefix_within p
block_within (Of.Range r) = range_within r

-- Addresses of a prefix are no range (2.2.3.7).
abbrev pub HasOneForm : IpBlock → Type 0
HasOneForm (Of.Prefix p) = Unit {0}
HasOneForm (Of.Range r) =
    (addr len : ℕ) → len ≤ 128 → first_of len addr ≡ addr → prefix_run addr len ≢ run_of_range r
