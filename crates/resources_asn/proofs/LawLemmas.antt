-- Laws of sets of AS numbers.
use Rattle.std.proofs.Common.{◌≡◌, ℕ, List, ap, ◌∙◌}
use Rattle.std.specs.Prelude.{length}
use Rattle.resources_asn.specs.resources_chain.Sets.{Run, InRuns, AreMaximal}
use Rattle.resources_asn.specs.Counted.{runs_count, runs_numbers}
use Rattle.resources_asn.specs.Listed.{IsListOf}
use Rattle.resources_asn.proofs.ListLemmas.{same_list}
use Rattle.resources_asn.proofs.CountLemmas.{runs_list, runs_length}

pub counted : (runs : List Run) (numbers : List ℕ) → AreMaximal runs → IsListOf (InRuns runs) numbers → length numbers ≡ runs_count runs
counted runs numbers m l = ap length (same_list numbers (runs_numbers runs) l (runs_list runs m) (λ n. (λ i. i, λ i. i))) ∙ runs_length runs
