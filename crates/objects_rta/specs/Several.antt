-- Octets that occur several times, one after the other, or may be missing.
use Rattle.std.specs.Prelude.{◌≡◌, ◌≢◌, ℕ, List, [], ◌∷◌, ◌++◌, Option, Some, None}
use Rattle.objects_cms.specs.bcder_tree.Tree.{Tree, Trees}
use Rattle.objects_cms.specs.bcder_content.Grammar.{Many}

abbrev pub RepeatsCases : {A : Type 0} → (List ℕ → A → Type 0) → List ℕ → List A → Type 0
RepeatsCases P text [] = text ≡ []
RepeatsCases P text (x ∷ xs) =
    (first : List ℕ) × (others : List ℕ) × (text ≡ first ++ others)
    × P first x × RepeatsCases P others xs

-- Octets of P, once for each of the list (SET OF).
pub record Repeats {A : Type 0} (P : List ℕ → A → Type 0) (text : List ℕ) (xs : List A)
    : Type 0 where
  pub cases : RepeatsCases P text xs

-- Octets of P, once or more.
pub record Several {A : Type 0} (P : List ℕ → A → Type 0) (text : List ℕ) (xs : List A)
    : Type 0 where
  pub are : Repeats P text xs
  pub some : xs ≢ []

abbrev pub PerhapsCases : {A : Type 0} → (List ℕ → A → Type 0) → List ℕ → Option A → Type 0
PerhapsCases P text None = text ≡ []
PerhapsCases P text (Some x) = P text x

-- Octets of P, or none (OPTIONAL).
pub record Perhaps {A : Type 0} (P : List ℕ → A → Type 0) (text : List ℕ) (x : Option A)
    : Type 0 where
  pub cases : PerhapsCases P text x

-- Values of Q, once or more.
pub record SomeOf {A : Type 0} (Q : Tree → A → Type 0) (ts : Trees) (xs : List A) : Type 0 where
  pub are : Many Q ts xs
  pub some : xs ≢ []
