-- Why nothing is written in DER.
use Rattle.std.specs.Prelude.{ℕ, ◌^◌, ◌<◌, List, length}
use Rattle.objects_written.specs.bcder_primitive.declared.written.error.EncodeError.{EncodeError}
use Rattle.objects_written.specs.bcder_primitive.declared.written.error.EncodeError.TheVariants as errors

-- No octets of P can be counted.
abbrev pub IsTooLong : (List ℕ → Type 0) → Type 0
IsTooLong P = (text : List ℕ) → P text → length text < 2 ^ 64 → ⊥

-- Why nothing of P is written: none can be, or there is no memory.
abbrev pub TextRefused : (List ℕ → Type 0) → EncodeError → Type 0
TextRefused P errors.CerUnsupported = ⊥
TextRefused P errors.TooLong = IsTooLong P
TextRefused P errors.Write = ⊥
TextRefused P errors.Memory = Unit {0}

-- What isn't written for another cause than memory is too long.
abbrev pub cause_told : EncodeError → EncodeError
cause_told errors.CerUnsupported = errors.TooLong
cause_told errors.TooLong = errors.TooLong
cause_told errors.Write = errors.TooLong
cause_told errors.Memory = errors.Memory
