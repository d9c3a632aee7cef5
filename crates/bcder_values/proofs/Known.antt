-- Values that are known to be writable, and their parts.
use Rattle.std.proofs.Common.{ℕ, ◌≡◌, ◌^◌, ◌<◌, List, length, refl, Option, arith}
use Rattle.bcder_values.specs.bcder_tree.declared.mode.Mode.{Mode}
use Rattle.bcder_values.specs.bcder_tree.Tree.{Trees}
use Rattle.bcder_values.specs.bcder_primitive.declared.written.error.EncodeError.{EncodeError}
use Rattle.bcder_values.specs.bcder_primitive.declared.written.error.EncodeError.TheVariants as errors
use Rattle.bcder_values.specs.bcder_primitive.Encoded.{WritesBoth, SpellsSome}
use Rattle.bcder_values.specs.bcder_primitive.Writing.{HasLength, TookFront, WriteRefused}
use Rattle.bcder_values.proofs.of_bcder_primitive.Compose.{both_length, written_refused}
use Rattle.bcder_values.specs.Writable.{Writable}

-- A length that can be counted was answered.
pub known : {P : List ℕ → Type 0} {n : ℕ} → n < 2 ^ 64 → HasLength P n → Writable P
known few w =
    let p = w.long in
    record { text = w.text; is = w.is; counted = omega arith }

pub known_as : {P Q : List ℕ → Type 0} → ((text : List ℕ) → P text → Q text) → Writable P → Writable Q
known_as f w = record { text = w.text; is = f w.text w.is; counted = w.counted }

-- Of both, each can be written.
pub known_first : {P Q : List ℕ → Type 0} → Writable (WritesBoth P Q) → Writable P
known_first w =
    let long = both_length w.text w.is in
    let few = w.counted in
    record { text = w.is.first; is = w.is.is_first; counted = omega arith }

pub known_second : {P Q : List ℕ → Type 0} → Writable (WritesBoth P Q) → Writable Q
known_second w =
    let long = both_length w.text w.is in
    let few = w.counted in
    record { text = w.is.second; is = w.is.is_second; counted = omega arith }

-- They are refused by the writer alone.
pub known_refused : (m : Mode) (T : Trees → Type 0) (P : List ℕ → Type 0) (same : Type 0) (old new : Option (List ℕ)) (e : EncodeError)
    → ((text : List ℕ) → P text → SpellsSome m T text) → Writable P → WriteRefused T P same old new e → (e ≡ errors.Write) × TookFront P old new
known_refused m T P same old new e spelled w h =
    let long : HasLength P (length w.text) = record { text = w.text; is = w.is; long = refl } in
    written_refused m T P (length w.text) same old new e spelled long w.counted h
