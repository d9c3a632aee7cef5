-- A customer's AS number, as resources.
use Rattle.std.specs.Prelude.{◌≡◌, ℕ, List}
use Rattle.objects_payload.specs.resources_chain.Sets.{Run, IsRunsOf}
use Rattle.objects_payload.specs.resources_chain.declared.choice.ResourcesChoice.{ResourcesChoice}
use Rattle.objects_payload.specs.resources_chain.declared.choice.ResourcesChoice.TheVariants.{Blocks}

-- That AS number is listed, and no other.
abbrev pub ListsAlone : ℕ → ResourcesChoice (List Run) → Type 0
ListsAlone number choice =
    (runs : List Run) × (choice ≡ Blocks runs) × IsRunsOf (λ n. n ≡ number) runs
