-- Texts of AS numbers: decimal digits (RFC 5396 section 2), in front of which `AS` may stand.
use Rattle.std.specs.Prelude.{◌≡◌, ℕ, ◌^◌, ◌<◌, ◌⊎◌, Result, MatchResult, List, ◌++◌, map, codes}
use Rattle.std.specs.Char.{to_ascii_lowercase}
use Rattle.std.specs.Str.Parse.{IsNumeral, digits_value, without_leading_plus}
use Rattle.resources_asn.specs.Numbers.{Number}
use Rattle.resources_asn.specs.declared.asn.ParseAsnError.{ParseAsnError}

-- Decimal digits of a number of 32 bits; zeros or one plus may stand in front.
pub record IsDigitText (text : List ℕ) (n : ℕ) : Type 0 where
  pub numeral : IsNumeral 10 (without_leading_plus text)
  pub value : digits_value 10 (without_leading_plus text) ≡ n
  pub fits : n < 2 ^ 32

-- The two letters, in any case.
abbrev pub IsLetters : List ℕ → Type 0
IsLetters front = map to_ascii_lowercase front ≡ codes "as"

-- The digits alone, or after the letters.
abbrev pub IsAsnText : List ℕ → ℕ → Type 0
IsAsnText text n =
    IsDigitText text n
    ⊎ ((front digits : List ℕ) × (text ≡ front ++ digits) × IsLetters front × IsDigitText digits n)

-- The answer is the number of the text; or it is the text of none.
abbrev pub Reads : List ℕ → Result Number ParseAsnError → Type 0
Reads text r = MatchResult r (λ a. IsAsnText text a.value) (λ _. (n : ℕ) → ¬ (IsAsnText text n))
