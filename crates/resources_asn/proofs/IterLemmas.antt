-- The steps of iterators over numbers of blocks.
use Rattle.std.proofs.Common.{◌≡◌, ℕ, ◌+◌, List, [], ◌∷◌, ◌++◌, map, sym, ap, ◌∙◌}
use Rattle.std.specs.Prelude.{Option, Some, None}
use Rattle.std.specs.Iterator.{YieldsFirstBy}
use Rattle.resources_asn.specs.Numbers.{Number}
use Rattle.resources_asn.specs.Blocks.{as_run, as_run_within}
use Rattle.resources_asn.specs.Counted.{run_numbers, runs_numbers}
use Rattle.resources_asn.specs.declared.as_block.block.AsBlock.{AsBlock}
use Rattle.resources_asn.proofs.CountLemmas.{run_first}

abbrev Gives : List ℕ → Option Number → List ℕ → Type 0
Gives = YieldsFirstBy (λ (a : Number). a.value) (λ (s : List ℕ). s)

-- Where a block is done, the next one's numbers come.
pub next_block : (old block : List ℕ) (blocks behind : List AsBlock) (first : AsBlock) (made after : List ℕ) (r : Option Number) → block ++ runs_numbers (map as_run blocks) ≡ old → block ≡ [] → blocks ≡ first ∷ behind → made ≡ run_numbers (as_run first) → Gives made r after → Gives old r (after ++ runs_numbers (map as_run behind))
next_block old block blocks behind first made after None v e bs m g =
    let f : run_numbers (as_run first) ≡ (as_run first).first ∷ run_numbers (record { first = (as_run first).first + 1; last = (as_run first).last }) = run_first (as_run first).first (as_run first).last (as_run_within first).0 in
    let none : made ≡ [] = g.0 in
    absurd cc
next_block old block blocks behind first made after (Some a) v e bs m g =
    let here : made ≡ a.value ∷ after = g in
    let all : old ≡ block ++ runs_numbers (map as_run (first ∷ behind)) = sym v ∙ ap (λ bs'. block ++ runs_numbers (map as_run bs')) bs in
    let front : old ≡ run_numbers (as_run first) ++ runs_numbers (map as_run behind) = all ∙ ap (λ b. b ++ (run_numbers (as_run first) ++ runs_numbers (map as_run behind))) e in
    front ∙ ap (λ b. b ++ runs_numbers (map as_run behind)) (sym m ∙ here)
