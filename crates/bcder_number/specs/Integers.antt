-- INTEGERs of any size, by their content octets (X.690 8.3).
use Rattle.std.specs.Prelude.{ℕ, ℤ, pos, negsuc, ◌-◌, ◌^◌, ◌<◌, List, [], ◌∷◌, length, All, nat_lt, if◌then◌else◌}
use Rattle.bcder_number.specs.bcder_tree.Integers.{number_of, IsShortest}
use Rattle.bcder_number.specs.bcder_primitive.Values.{IsTwosComplement}

-- The content octets of an INTEGER (8.3): as few octets as can be (8.3.2), which are the number in two's complement (8.3.3).
pub record IsInteger (content : List ℕ) (x : ℤ) : Type 0 where
  pub octets : All (λ a. a < 256) content
  pub shortest : IsShortest content
  pub value : IsTwosComplement content x

-- The content octets of an INTEGER from 0 up.
abbrev pub IsNatural : List ℕ → ℕ → Type 0
IsNatural content n = IsInteger content (pos n)

-- The number that octets are in two's complement (8.3.3): where the highest bit, the sign, is set, what they spell less
-- 256 to the power of their count. (`negsuc k` is -1 - k.)
abbrev pub told : List ℕ → ℤ
told [] = pos 0
told (a ∷ v) = if nat_lt a 128 then pos (number_of (a ∷ v)) else negsuc (256 ^ length (a ∷ v) - number_of (a ∷ v) - 1)
