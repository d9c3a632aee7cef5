-- Texts of numbers with two digits each.
use Rattle.std.specs.Prelude.{◌≡◌, ℕ, ◌<◌, List, [], ◌∷◌, ◌++◌, length, slice_index, EachIndex}
use Rattle.certs_basics.specs.Times.{digits}

-- Two digits for each number, and a `Z`.
unfoldable pub pair_text : List ℕ → List ℕ
pair_text [] = 90 ∷ []
pair_text (n ∷ ns) = digits 2 n ++ pair_text ns

-- The text is these seven numbers, each of two digits.
pub record IsPairs (text : List ℕ) (numbers : List ℕ) : Type 0 where
  pub count : length numbers ≡ 7
  pub small : EachIndex numbers (λ k. slice_index numbers k < 100)
  pub text_is : text ≡ pair_text numbers
