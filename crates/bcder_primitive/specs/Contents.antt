-- Why content octets aren't written.
use Rattle.std.specs.Prelude.{◌≡◌, ℕ, ◌^◌, ◌<◌, List, length, Option}
use Rattle.bcder_primitive.specs.bcder_tree.declared.mode.Mode.{Mode}
use Rattle.bcder_primitive.specs.bcder_tree.declared.mode.Mode.TheVariants.{Cer}
use Rattle.bcder_primitive.specs.declared.written.error.EncodeError.{EncodeError}
use Rattle.bcder_primitive.specs.declared.written.error.EncodeError.TheVariants as errors
use Rattle.bcder_primitive.specs.Writing.{TookFront}

-- In CER there are none, or they are more than 2^32 - 1.
abbrev pub NoContent : Mode → (List ℕ → Type 0) → EncodeError → Type 0
NoContent m P errors.CerUnsupported = (m ≡ Cer) × ((content : List ℕ) → P content → ⊥)
NoContent m P errors.TooLong = (content : List ℕ) → P content → length content < 2 ^ 32 → ⊥
NoContent m P errors.Write = ⊥
NoContent m P errors.Memory = ⊥

-- What a refusal left.
abbrev pub ContentRefused : Mode → (List ℕ → Type 0) → Type 0 → Option (List ℕ) → Option (List ℕ)
    → EncodeError → Type 0
ContentRefused m P same old new errors.CerUnsupported = NoContent m P errors.CerUnsupported × same
ContentRefused m P same old new errors.TooLong = NoContent m P errors.TooLong × same
ContentRefused m P same old new errors.Write = TookFront P old new
ContentRefused m P same old new errors.Memory = ⊥

-- Why there are no bytes of them: they aren't written, or there was no memory.
abbrev pub BytesRefused : Mode → (List ℕ → Type 0) → EncodeError → Type 0
BytesRefused m P errors.CerUnsupported = NoContent m P errors.CerUnsupported
BytesRefused m P errors.TooLong = NoContent m P errors.TooLong
BytesRefused m P errors.Write = ⊥
BytesRefused m P errors.Memory = Unit {0}
