-- Identifier and length octets that stand in every mode.
use Rattle.std.specs.Prelude.{◌≡◌, ℕ, ◌^◌, ◌≤◌, Bool, List, ◌++◌, Option}
use Rattle.bcder_primitive.specs.bcder_tree.declared.length.Length.TheVariants.{Definite}
use Rattle.bcder_primitive.specs.bcder_tree.Tags.{TagValue, IsTag}
use Rattle.bcder_primitive.specs.bcder_tree.Octets.{IsIdentifier}
use Rattle.bcder_primitive.specs.bcder_tree.Lengths.{SpellsEverywhere}
use Rattle.bcder_primitive.specs.Writing.{TookFront}
use Rattle.bcder_primitive.specs.declared.written.error.EncodeError.{EncodeError}
use Rattle.bcder_primitive.specs.declared.written.error.EncodeError.TheVariants as errors

-- Identifier octets, and a definite length of n content octets that stands in each mode, so in the fewest octets
-- (X.690 8.1.2, 8.1.3, 9.1, 10.1).
pub record IsHeaderIn (form : Bool) (t : TagValue) (n : ℕ) (text : List ℕ) : Type 0 where
  pub identifier : List ℕ
  pub size : List ℕ
  pub whole : text ≡ identifier ++ size
  pub tag : IsTag t
  pub identifier_is : IsIdentifier identifier form t
  pub size_is : SpellsEverywhere (Definite n) size

-- A header isn't written where four length octets can't tell the length, or the writer refused.
abbrev pub HeaderRefused : Bool → TagValue → ℕ → Type 0 → Option (List ℕ) → Option (List ℕ)
    → EncodeError → Type 0
HeaderRefused form t n same old new errors.CerUnsupported = ⊥
HeaderRefused form t n same old new errors.TooLong = (2 ^ 32 ≤ n) × same
HeaderRefused form t n same old new errors.Write = TookFront (IsHeaderIn form t n) old new
HeaderRefused form t n same old new errors.Memory = ⊥
