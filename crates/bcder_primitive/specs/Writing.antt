-- What was written, and what a refusal left.
use Rattle.std.specs.Prelude.{◌≡◌, ◌≢◌, ℕ, ◌^◌, ◌<◌, ◌≤◌, List, ◌++◌, length, Option, Result, Ok, Err}
use Rattle.std.specs.IoError.{error_kind}
use Rattle.std.specs.declared.io.Error.{Error}
use Rattle.std.specs.declared.io.ErrorKind.TheVariants.{Interrupted}
use Rattle.std.specs.Io.KnownBytes.{Appends}
use Rattle.bcder_primitive.specs.bcder_tree.Tree.{Trees}
use Rattle.bcder_primitive.specs.declared.written.error.EncodeError.{EncodeError}
use Rattle.bcder_primitive.specs.declared.written.error.EncodeError.TheVariants as errors

-- A text of P, with so many octets.
pub record HasLength (P : List ℕ → Type 0) (count : ℕ) : Type 0 where
  pub text : List ℕ
  pub is : P text
  pub long : length text ≡ count

-- What a call of `write` took of some octets, by its answer: none where it was interrupted.
abbrev pub Took : Result ℕ Error → ℕ → Type 0
Took (Ok count) n = (n ≡ count) × (1 ≤ n)
Took (Err e) n = (n ≡ 0) × (error_kind e ≡ Interrupted)

-- It took none of some octets, or failed in another way.
abbrev pub TookNone : Result ℕ Error → Type 0
TookNone (Ok count) = count ≡ 0
TookNone (Err e) = error_kind e ≢ Interrupted

-- A text of P was written.
pub record Wrote (P : List ℕ → Type 0) (old new : Option (List ℕ)) : Type 0 where
  pub text : List ℕ
  pub is : P text
  pub appended : Appends old new text

-- The writer took a front of a text of P, and not all of it.
pub record TookFront (P : List ℕ → Type 0) (old new : Option (List ℕ)) : Type 0 where
  pub text : List ℕ
  pub is : P text
  pub taken : List ℕ
  pub others : List ℕ
  pub whole : text ≡ taken ++ others
  pub some : 1 ≤ length others
  pub appended : Appends old new taken

-- Why values aren't written: in the mode no trees are a form of them, or there is no text of theirs with lengths that
-- can be written, and octets that can be counted.
abbrev pub CannotWrite : (Trees → Type 0) → (List ℕ → Type 0) → EncodeError → Type 0
CannotWrite T P errors.CerUnsupported = (ts : Trees) → T ts → ⊥
CannotWrite T P errors.TooLong = (text : List ℕ) → P text → length text < 2 ^ 64 → ⊥
CannotWrite T P errors.Write = ⊥
CannotWrite T P errors.Memory = ⊥

-- What a refusal left: nothing was written, or the writer refused, and had taken a front of the text.
abbrev pub WriteRefused : (Trees → Type 0) → (List ℕ → Type 0) → Type 0 → Option (List ℕ)
    → Option (List ℕ) → EncodeError → Type 0
WriteRefused T P same old new errors.CerUnsupported = CannotWrite T P errors.CerUnsupported × same
WriteRefused T P same old new errors.TooLong = CannotWrite T P errors.TooLong × same
WriteRefused T P same old new errors.Write = TookFront P old new
WriteRefused T P same old new errors.Memory = ⊥

-- A writer that is memory refuses where memory has run out.
abbrev pub FillRefused : EncodeError → EncodeError → Type 0
FillRefused errors.CerUnsupported e = e ≡ errors.CerUnsupported
FillRefused errors.TooLong e = e ≡ errors.TooLong
FillRefused errors.Write e = e ≡ errors.Memory
FillRefused errors.Memory e = e ≡ errors.Memory
