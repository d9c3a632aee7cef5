-- What one fact tells among others.
use Rattle.std.specs.Prelude.{ℕ, Bool, true, false, List, ◌∷◌}

-- A line, or a comma (44) and a JSON object.
abbrev pub shown_as : {X : Type 0} → (X → List ℕ) → (X → List ℕ) → Bool → X → List ℕ
shown_as line object false x = line x
shown_as line object true x = 44 ∷ object x
