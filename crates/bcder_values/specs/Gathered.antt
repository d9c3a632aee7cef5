-- Values that are gathered.
use Rattle.std.specs.Prelude.{◌≡◌, ℕ, List, ◌++◌}
use Rattle.bcder_values.specs.bcder_tree.Tree.{Trees}
use Rattle.bcder_content.specs.Kept.{CapturedValue}
use Rattle.bcder_values.specs.bcder_primitive.declared.written.error.EncodeError.{EncodeError}
use Rattle.bcder_values.specs.bcder_primitive.declared.written.error.EncodeError.TheVariants as errors
use Rattle.bcder_values.specs.bcder_primitive.Writing.{CannotWrite}

-- A text of P comes after what was there.
pub record Extended (P : List ℕ → Type 0) (old new : CapturedValue) : Type 0 where
  pub text : List ℕ
  pub is : P text
  pub whole : new.octets ≡ old.octets ++ text
  pub mode : new.mode ≡ old.mode

-- Why nothing is gathered: the values can't be written, or there was no memory.
abbrev pub ExtendRefused : (Trees → Type 0) → (List ℕ → Type 0) → EncodeError → Type 0
ExtendRefused T P errors.CerUnsupported = CannotWrite T P errors.CerUnsupported
ExtendRefused T P errors.TooLong = CannotWrite T P errors.TooLong
ExtendRefused T P errors.Write = ⊥
ExtendRefused T P errors.Memory = Unit {0}
