-- Choices of resources, and what is made of the set that one lists.
use Rattle.std.specs.Prelude.{◌≡◌, ℕ, Option, Some, List, [], codes}
use Rattle.resources_chain.specs.Sets.{Run, InRuns, IsRunsOf}
use Rattle.resources_chain.specs.declared.choice.ResourcesChoice.{ResourcesChoice}
use Rattle.resources_chain.specs.declared.choice.ResourcesChoice.TheVariants.{Missing, Inherit, Blocks}

-- A choice, with the function's value of the set that it lists.
abbrev pub choice_map : {T U : Type 0} → (T → U) → ResourcesChoice T → ResourcesChoice U
choice_map f Missing = Missing
choice_map f Inherit = Inherit
choice_map f (Blocks blocks) = Blocks (f blocks)

-- The second choice is the first, with something that the relation allows for the set that it lists.
abbrev pub MapsTo : {T U : Type 0} → (T → U → Type 0) → ResourcesChoice T → ResourcesChoice U
    → Type 0
MapsTo gives Missing choice = choice ≡ Missing
MapsTo gives Inherit choice = choice ≡ Inherit
MapsTo {U = U} gives (Blocks blocks) choice =
    (made : U) × (choice ≡ Blocks made) × gives blocks made

-- The set of a choice that doesn't inherit: one that stands for none, or a clone of the set that it lists.
abbrev pub TurnsInto : {T : Type 0} → (T → Type 0) → (T → T → Type 0) → ResourcesChoice T → T
    → Type 0
TurnsInto is_none is_clone Missing made = is_none made
TurnsInto is_none is_clone Inherit made = ⊥
TurnsInto is_none is_clone (Blocks blocks) made = is_clone blocks made

-- The runs that came, in any order; none where there is no list.
abbrev pub listed : ResourcesChoice (List Run) → List Run
listed Missing = []
listed Inherit = []
listed (Blocks runs) = runs

-- The second choice is the first, with the maximal runs of the set of those that came.
abbrev pub IsChoiceOf : ResourcesChoice (List Run) → ResourcesChoice (List Run) → Type 0
IsChoiceOf = MapsTo (λ runs set. IsRunsOf (InRuns runs) set)

-- What is printed of a choice: nothing, `inherit`, or what is printed of its set.
abbrev pub choice_text : {T : Type 0} → (T → Option (List ℕ)) → ResourcesChoice T → Option (List ℕ)
choice_text set_text Missing = Some []
choice_text set_text Inherit = Some (codes "inherit")
choice_text set_text (Blocks blocks) = set_text blocks
