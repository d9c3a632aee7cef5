-- INTEGER (X.690 8.3), the same in every mode.
use Rattle.std.specs.Prelude.{◌≡◌, ℕ, ◌+◌, ◌*◌, ◌<◌, ◌≤◌, List, [], ◌∷◌}

-- The number that octets spell, the most significant first, after a number that was read before.
abbrev pub number_behind : ℕ → List ℕ → ℕ
number_behind before [] = before
number_behind before (a ∷ v) = number_behind (before * 256 + a) v

abbrev pub number_of : List ℕ → ℕ
number_of v = number_behind 0 v

-- One or more octets, and of several the first nine bits are neither all zero nor all one (8.3.1, 8.3.2).
abbrev pub IsShortest : List ℕ → Type 0
IsShortest [] = ⊥
IsShortest (a ∷ []) = Unit {0}
IsShortest (a ∷ b ∷ v) = ((a ≡ 0) → 128 ≤ b) × ((a ≡ 255) → b < 128)

-- The highest bit, the sign, is clear (8.3.3).
abbrev pub IsPositive : List ℕ → Type 0
IsPositive [] = ⊥
IsPositive (a ∷ v) = a < 128
