-- Values of simple types, by their content octets.
use Rattle.std.specs.Prelude.{◌≡◌, ℕ, ℤ, pos, negsuc, ◌+◌, ◌^◌, ◌<◌, ◌≤◌, Bool, true, false, List, [], ◌∷◌, length, All}
use Rattle.bcder_primitive.specs.bcder_tree.declared.mode.Mode.{Mode}
use Rattle.bcder_primitive.specs.bcder_tree.declared.mode.Mode.TheVariants.{Ber, Cer, Der}
use Rattle.bcder_primitive.specs.bcder_tree.Integers.{number_of, IsShortest, IsPositive}

-- BOOLEAN: one octet, `00` for false (X.690 8.2); for true any other in BER, and `FF` alone in CER and DER (11.1).
abbrev pub IsTruth : Mode → ℕ → Bool → Type 0
IsTruth m a false = a ≡ 0
IsTruth Ber a true = a ≡ 0 → ⊥
IsTruth Cer a true = a ≡ 255
IsTruth Der a true = a ≡ 255

pub record IsBoolean (m : Mode) (content : List ℕ) (x : Bool) : Type 0 where
  pub octet : ℕ
  pub whole : content ≡ octet ∷ []
  pub truth : IsTruth m octet x

-- NULL: no content octets (8.8).
pub record IsNull (content : List ℕ) (x : Unit {0}) : Type 0 where
  pub empty : content ≡ []

-- INTEGER (8.3): a number from 0 up, below a bound.
pub record IsUnsigned (bound : ℕ) (content : List ℕ) (x : ℕ) : Type 0 where
  pub shortest : IsShortest content
  pub positive : IsPositive content
  pub value : number_of content ≡ x
  pub below : x < bound

-- The highest bit, the sign, is set (8.3.3).
abbrev pub IsNegative : List ℕ → Type 0
IsNegative [] = ⊥
IsNegative (a ∷ v) = 128 ≤ a

-- The two's complement binary number that octets are (8.3.3): where the sign is set, the number that they spell less
-- 256 to the power of their count. (`negsuc k` is -1 - k.)
abbrev pub IsTwosComplement : List ℕ → ℤ → Type 0
IsTwosComplement content (pos n) = IsPositive content × (number_of content ≡ n)
IsTwosComplement content (negsuc k) =
    IsNegative content × (number_of content + k + 1 ≡ 256 ^ length content)

-- From -bound up, and below bound.
abbrev pub IsWithin : ℕ → ℤ → Type 0
IsWithin bound (pos n) = n < bound
IsWithin bound (negsuc k) = k < bound

-- INTEGER (8.3), within a bound.
pub record IsSigned (bound : ℕ) (content : List ℕ) (x : ℤ) : Type 0 where
  pub octets : All (λ a. a < 256) content
  pub shortest : IsShortest content
  pub value : IsTwosComplement content x
  pub within : IsWithin bound x

-- Content octets of that very value.
pub record IsValue {A : Type 0} (P : List ℕ → A → Type 0) (value : A) (content : List ℕ)
    (x : Unit {0}) : Type 0 where
  pub is : P content value

-- Any content octets, as they are.
pub record AnyOctets (content : List ℕ) (x : List ℕ) : Type 0 where
  pub same : content ≡ x

-- Any content octets, which nothing is known of.
pub record Skipped (content : List ℕ) (x : Unit {0}) : Type 0 where
  pub any : Unit {0}
