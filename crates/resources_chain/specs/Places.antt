-- The places of a list of runs, as they stand to a number.
use Rattle.std.specs.Prelude.{ℕ, ◌-◌, ◌&&◌, List, get_or, if◌then◌else◌, not}
use Rattle.std.proofs.Math.Dec.{ltb}
use Rattle.std.specs.declared.cmp.Ordering.{Ordering}
use Rattle.std.specs.declared.cmp.Ordering.TheVariants.{Less, Equal, Greater}
use Rattle.resources_chain.specs.Sets.{Run}

-- The run at a place.
abbrev pub run_at : List Run → ℕ → Run
run_at runs k = get_or runs k (record { first = 0; last = 0 })

-- How a run stands to a number: before it, after it, or at it, where it has it.
abbrev pub stand : ℕ → Run → Ordering
stand n r = if ltb r.last n then Less else if ltb n r.first then Greater else Equal

-- How the run at a place stands to the first that ends at a number or after it.
abbrev pub reach : ℕ → List Run → ℕ → Ordering
reach n runs k = if ltb (run_at runs k).last n then Less else if ltb 0 k && not (ltb (run_at runs (k - 1)).last n) then Greater else Equal
