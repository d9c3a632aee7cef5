-- Octets that are taken as values in DER.
use Rattle.std.specs.Prelude.{◌≡◌, ℕ, List, Result, Ok, Err}
use Rattle.objects_written.specs.bcder_tree.declared.mode.Mode.TheVariants.{Der}
use Rattle.objects_written.specs.bcder_source.Errors.{OnContent}
use Rattle.objects_written.specs.bcder_source.declared.error.DecodeError.{DecodeError}
use Rattle.objects_written.specs.bcder_content.Captures.{CapturesAll}
use Rattle.objects_written.specs.bcder_content.Contents.{ValuesLeft}
use Rattle.objects_written.specs.bcder_content.Kept.{CapturedValue, SpellsValues}
use Rattle.objects_written.specs.bcder_content.Skips.{NotWhole}
use Rattle.objects_written.specs.bcder_primitive.declared.written.error.EncodeError.{EncodeError}
use Rattle.objects_written.specs.bcder_primitive.declared.written.error.EncodeError.TheVariants as errors

-- Octets of values that stand in DER.
abbrev pub in_der : List ℕ → CapturedValue
in_der octets = record { mode = Der; octets = octets }

-- A reader of all values of a content, whose octets are kept.
abbrev pub TakesAll : {E : Type 0} → ValuesLeft → Result CapturedValue (DecodeError E) → ValuesLeft
    → Type 0
TakesAll old (Ok c) new = CapturesAll old c new
TakesAll old (Err e) new = OnContent e (NotWhole old)

-- The octets are values in DER, and are kept as such.
pub record IsInDer (octets : List ℕ) (c : CapturedValue) : Type 0 where
  pub same : c ≡ in_der octets
  pub spelled : SpellsValues Der octets

abbrev pub DecodesDer : {E : Type 0} → List ℕ → Result CapturedValue (DecodeError E) → Type 0
DecodesDer octets (Ok c) = IsInDer octets c
DecodesDer octets (Err e) = OnContent e (SpellsValues Der octets → ⊥)

-- Why octets aren't taken as values in DER: they are none, or there is no memory.
abbrev pub DerRefused : List ℕ → EncodeError → Type 0
DerRefused octets errors.CerUnsupported = SpellsValues Der octets → ⊥
DerRefused octets errors.TooLong = ⊥
DerRefused octets errors.Write = ⊥
DerRefused octets errors.Memory = Unit {0}
