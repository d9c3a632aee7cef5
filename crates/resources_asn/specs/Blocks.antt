-- Blocks of AS numbers (RFC 3779 section 3.2.3.5): a number, or a range.
use Rattle.std.specs.Prelude.{ℕ, ◌<◌, ◌≤◌, ◌++◌, ◌==◌, if◌then◌else◌, List, codes}
use Rattle.std.specs.Fmt.{decimal}
use Rattle.std.proofs.Common.{le_refl}
use Rattle.resources_asn.specs.resources_chain.Sets.{Run}
use Rattle.resources_asn.specs.Numbers.{last_number}
use Rattle.resources_asn.specs.Ranges.{range_run}
use Rattle.resources_asn.specs.declared.as_block.block.AsBlock.{AsBlock}
use Rattle.resources_asn.specs.declared.as_block.block.AsBlock.TheVariants.{Id, Range}

-- The numbers of a block.
abbrev pub as_run : AsBlock → Run
as_run (Id n) = record { first = n.value; last = n.value }
as_run (Range r) = range_run r

-- A block has a number, and none above the greatest.
pub as_run_within : (b : AsBlock) → ((as_run b).first ≤ (as_run b).last)
    × ((as_run b).last ≤ last_number)
as_run_within (Id n) = (le_refl n.value, n.in_range)
as_run_within (Range r) = (r.ordered, r.last.in_range)

-- One number alone is no range.
abbrev pub HasOneForm : AsBlock → Type 0
HasOneForm (Id n) = Unit {0}
HasOneForm (Range r) = r.first.value < r.last.value

-- How a block of these numbers is written: `AS1`, `AS1-AS5`.
abbrev pub run_text : Run → List ℕ
run_text r = if r.first == r.last then codes "AS" ++ decimal r.first else codes "AS" ++ decimal r.first ++ codes "-AS" ++ decimal r.last
