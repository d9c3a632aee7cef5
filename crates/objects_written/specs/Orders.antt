-- The order of the encodings in a SET OF (X.690 11.6).
use Rattle.std.specs.Prelude.{◌≡◌, ◌^◌, ◌<◌, ◌⊎◌, ◌++◌, ℕ, List, [], ◌∷◌, length}
use Rattle.objects_written.specs.bcder_primitive.declared.written.error.EncodeError.{EncodeError}
use Rattle.objects_written.specs.bcder_primitive.declared.written.error.EncodeError.TheVariants as errors

-- The first octet, and those after it; octets that are missing count as 0.
abbrev pub front : List ℕ → ℕ
front [] = 0
front (b ∷ w) = b

abbrev pub behind : List ℕ → List ℕ
behind [] = []
behind (b ∷ w) = w

-- Octets don't come after others, compared one by one.
abbrev pub IsOrdered : List ℕ → List ℕ → Type 0
IsOrdered [] w = Unit {0}
IsOrdered (a ∷ v) w = (a < front w) ⊎ ((a ≡ front w) × IsOrdered v (behind w))

-- Three are these three, in some order.
abbrev pub AreThese : {A : Type 0} → A × (A × A) → A → A → A → Type 0
AreThese t x y z =
    ((x ≡ t.0) × (y ≡ t.1.0) × (z ≡ t.1.1)) ⊎ ((x ≡ t.0) × (y ≡ t.1.1) × (z ≡ t.1.0))
    ⊎ ((x ≡ t.1.1) × (y ≡ t.0) × (z ≡ t.1.0))
    ⊎ ((x ≡ t.1.0) × (y ≡ t.0) × (z ≡ t.1.1)) ⊎ ((x ≡ t.1.0) × (y ≡ t.1.1) × (z ≡ t.0))
    ⊎ ((x ≡ t.1.1) × (y ≡ t.1.0) × (z ≡ t.0))

-- Three encodings, one after the other, ascending.
pub record SetText (t : List ℕ × (List ℕ × List ℕ)) (text : List ℕ) : Type 0 where
  pub first : List ℕ
  pub second : List ℕ
  pub third : List ℕ
  pub are : AreThese t first second third
  pub one : IsOrdered first second
  pub two : IsOrdered second third
  pub whole : text ≡ first ++ (second ++ third)

-- Why they aren't put together: there are more octets than can be counted, or there is no memory.
abbrev pub SetRefused : List ℕ × (List ℕ × List ℕ) → EncodeError → Type 0
SetRefused t errors.CerUnsupported = ⊥
SetRefused t errors.TooLong = (text : List ℕ) → SetText t text → length text < 2 ^ 64 → ⊥
SetRefused t errors.Write = ⊥
SetRefused t errors.Memory = Unit {0}
