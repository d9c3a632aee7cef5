-- Texts of one line in a folder: `moment`, `depth` and `relaxed`.
use Rattle.std.specs.Prelude.{◌≡◌, ℕ, ◌+◌, ◌/◌, ◌%◌, ◌≤◌, ◌⊎◌, Bool, true, false, List, [], ◌∷◌, ◌++◌, codes}
use Rattle.rpki_commands.specs.certs_basics.Times.{IsMoment}

-- A line feed (10), after a carriage return (13) or not.
abbrev pub IsLineEnd : List ℕ → Type 0
IsLineEnd end = (end ≡ 10 ∷ []) ⊎ (end ≡ 13 ∷ 10 ∷ [])

-- The end of a last line may be missing.
abbrev pub IsEnd : List ℕ → Type 0
IsEnd end = (end ≡ []) ⊎ IsLineEnd end

-- A line that states a number, and then a line end or nothing.
pub record TellsNumber (Is : List ℕ → ℕ → Type 0) (text : List ℕ) (number : ℕ) : Type 0 where
  pub line : List ℕ
  pub end : List ℕ
  pub whole : text ≡ line ++ end
  pub line_is : Is line number
  pub end_is : IsEnd end

-- YYYYMMDDHHMMSSZ.
abbrev pub TellsMoment : List ℕ → ℕ → Type 0
TellsMoment text moment = TellsNumber IsMoment text moment

-- One or two decimal digits (48 to 57), the first of them not 0.
abbrev pub IsDepth : List ℕ → ℕ → Type 0
IsDepth line depth =
    ((1 ≤ depth) × (depth ≤ 9) × (line ≡ (48 + depth) ∷ []))
    ⊎ ((10 ≤ depth) × (depth ≤ 99) × (line ≡ (48 + depth / 10) ∷ (48 + depth % 10) ∷ []))

abbrev pub TellsDepth : List ℕ → ℕ → Type 0
TellsDepth text depth = TellsNumber IsDepth text depth

-- Whether signed objects are relaxed, in a word,
abbrev pub flag_word : Bool → List ℕ
flag_word true = codes "true"
flag_word false = codes "false"

-- and then a line end or nothing.
pub record TellsFlag (text : List ℕ) (relaxed : Bool) : Type 0 where
  pub end : List ℕ
  pub whole : text ≡ flag_word relaxed ++ end
  pub end_is : IsEnd end
