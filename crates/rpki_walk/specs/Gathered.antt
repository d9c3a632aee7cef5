-- Sets that were found, and their union.
use Rattle.std.specs.Prelude.{ℕ, List}
use Rattle.rpki_walk.specs.resources_chain.Sets.{IsRunsOf}
use Rattle.rpki_walk.specs.resources.Resources.{Resources}
use Rattle.rpki_rules.specs.Words.{Mem}
use Rattle.rpki_rules.specs.Kinds.{Kind, of_kind, InSet}
use Rattle.rpki_walk.specs.Facts.{Finding, Refuses, Shows, Originates, Provides, Reaches, Chains, Diagnoses, Unheld}
use Rattle.rpki_walk.specs.declared.reach.gather.Gatherer.{Gatherer}

-- The number is in one of the sets.
abbrev pub InSome : List Resources → Kind → ℕ → Type 0
InSome sets k n = (set : Resources) × Mem sets set × InSet set k n

-- The set has just the numbers that are in one of the sets.
abbrev pub AreUnionOf : List Resources → Resources → Type 0
AreUnionOf sets union = (k : Kind) → IsRunsOf (InSome sets k) (of_kind union k)

-- What was gathered has this.
abbrev pub has_gathered : Gatherer → Finding → Type 0
has_gathered g (Refuses name why) = ⊥
has_gathered g (Shows t) = ⊥
has_gathered g (Originates o) = ⊥
has_gathered g (Provides p) = ⊥
has_gathered g (Reaches k n) = InSome g.sets.items k n
has_gathered g (Chains v) = ⊥
has_gathered g (Diagnoses d) = ⊥
has_gathered g (Unheld d numbers) = ⊥

-- What is reached, and nothing else.
abbrev pub IsReaches : Finding → Type 0
IsReaches (Refuses name why) = ⊥
IsReaches (Shows t) = ⊥
IsReaches (Originates o) = ⊥
IsReaches (Provides p) = ⊥
IsReaches (Reaches k n) = Unit {0}
IsReaches (Chains v) = ⊥
IsReaches (Diagnoses d) = ⊥
IsReaches (Unheld d numbers) = ⊥
