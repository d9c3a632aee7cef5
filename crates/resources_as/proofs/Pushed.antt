-- A block has numbers, and so has a set of it and others.
use Rattle.std.proofs.Common.{ℕ, List, [], ◌∷◌, ◌++◌, inl, inr, le_refl}
use Rattle.resources_as.specs.resources_chain.Sets.{Run, InRuns, IsRunsOf}
use Rattle.resources_as.proofs.of_resources_chain.SetLemmas.{in_append}
use Rattle.resources_asn.specs.declared.as_block.block.AsBlock.{AsBlock}
use Rattle.resources_asn.specs.Blocks.{as_run, as_run_within}

pub some_pushed : (runs : List Run) (b : AsBlock) → (n : ℕ) × InRuns (runs ++ as_run b ∷ []) n
some_pushed runs b = ((as_run b).first, (in_append runs (as_run b ∷ []) (as_run b).first).1 (inr (inl (le_refl _, (as_run_within b).0))))

pub some_set : (runs set : List Run) → IsRunsOf (InRuns runs) set → (n : ℕ) × InRuns runs n → ((n : ℕ) → ¬ (InRuns set n)) → ⊥
some_set runs set is some none = none some.0 ((is.same some.0).1 some.1)
