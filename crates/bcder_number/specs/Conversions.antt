-- Numbers of any size as numbers of a type.
use Rattle.std.specs.Prelude.{◌≡◌, ℕ, ℤ, pos, ◌<◌, Result, Ok, Err}
use Rattle.bcder_number.specs.bcder_primitive.Values.{IsWithin}

-- The number, or it isn't from 0 up and below the bound.
abbrev pub TellsUnsigned : {E : Type 0} → ℕ → ℤ → Result ℕ E → Type 0
TellsUnsigned bound x (Ok n) = pos n ≡ x
TellsUnsigned bound x (Err e) = (n : ℕ) → n < bound → pos n ≡ x → ⊥

-- The number, or it isn't from -bound up and below the bound.
abbrev pub TellsSigned : {E : Type 0} → ℕ → ℤ → Result ℤ E → Type 0
TellsSigned bound x (Ok n) = n ≡ x
TellsSigned bound x (Err e) = IsWithin bound x → ⊥
