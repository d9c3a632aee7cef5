-- The character sets (X.680 clause 41, X.690 8.23).
use Rattle.std.specs.Prelude.{◌≡◌, ℕ, ◌⊎◌, List, [], ◌∷◌}
use Rattle.std.specs.Char.{IsScalar}
pub use Rattle.bcder.specs.bcder_tree.Strings.{IsDigit, IsPrintable, IsIa5}

-- UTF8String: any character of Unicode, in UTF-8 (X.680 41.16, X.690 8.23.10, RFC 3629 3).
abbrev pub IsUnicode : ℕ → Type 0
IsUnicode = IsScalar

-- NumericString: digits and space (X.680 41.2).
abbrev pub IsNumeric : ℕ → Type 0
IsNumeric c = IsDigit c ⊎ (c ≡ 32)

-- In the sets of ASCII a character is one octet, its code (X.690 8.23.5).
abbrev pub alone : ℕ → List ℕ
alone c = c ∷ []
