-- All values of a list, in their order (X.690 8.10.2).
use Rattle.std.proofs.Common.{◌≡◌, ℕ, List, [], ◌∷◌}
use Rattle.bcder_values.specs.bcder_tree.declared.mode.Mode.{Mode}
use Rattle.bcder_values.specs.bcder_tree.Tree.{Trees}
use Rattle.bcder_values.specs.bcder_primitive.Encoded.{NoTree, NoText, AreBoth, WritesBoth, SpellsSome}
use Rattle.bcder_values.specs.Choices.{nothing_spelled, nothing_one}
use Rattle.bcder_values.specs.Laws.{both_spelled, both_one}

-- The values of each, one after the other.
abbrev pub AreAll : {V : Type 0} → (V → Trees → Type 0) → List V → Trees → Type 0
AreAll T [] = NoTree
AreAll T (x ∷ xs) = AreBoth (T x) (AreAll T xs)

abbrev pub WritesAll : {V : Type 0} → (V → List ℕ → Type 0) → List V → List ℕ → Type 0
WritesAll P [] = NoText
WritesAll P (x ∷ xs) = WritesBoth (P x) (WritesAll P xs)

-- That what is written spells the values, and is always the same.
pub all_spelled : (m : Mode) {V : Type 0} {T : V → Trees → Type 0} {P : V → List ℕ → Type 0}
    → ((v : V) (text : List ℕ) → P v text → SpellsSome m (T v) text)
    → (xs : List V) (text : List ℕ) → WritesAll P xs text → SpellsSome m (AreAll T xs) text
all_spelled m f [] = nothing_spelled m
all_spelled m f (x ∷ xs) = both_spelled m (f x) (all_spelled m f xs)

pub all_one : {V : Type 0} {P : V → List ℕ → Type 0}
    → ((v : V) (a b : List ℕ) → P v a → P v b → a ≡ b) → (xs : List V) (a b : List ℕ)
    → WritesAll P xs a → WritesAll P xs b → a ≡ b
all_one f [] = nothing_one
all_one f (x ∷ xs) = both_one (f x) (all_one f xs)
