-- Texts cut at a byte, and numbers in texts.
use Rattle.std.specs.Prelude.{◌≡◌, ◌≢◌, ℕ, ◌^◌, ◌<◌, List, ◌∷◌, ◌++◌, length, slice_index}
use Rattle.std.specs.Str.Parse.{IsNumeral, digits_value, without_leading_plus}

-- The byte isn't there.
abbrev pub LacksByte : ℕ → List ℕ → Type 0
LacksByte c text = (i : ℕ) → i < length text → slice_index text i ≢ c

-- What stands before the first such byte, and after it.
pub record IsCut (c : ℕ) (text before after : List ℕ) : Type 0 where
  pub whole : text ≡ before ++ c ∷ after
  pub first : LacksByte c before

-- Decimal digits of a number below 256; zeros or one plus may stand in front.
pub record IsLenText (text : List ℕ) (n : ℕ) : Type 0 where
  pub numeral : IsNumeral 10 (without_leading_plus text)
  pub value : digits_value 10 (without_leading_plus text) ≡ n
  pub fits : n < 2 ^ 8
