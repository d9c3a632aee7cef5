-- What is said of the octets of a number is said of the number.
use Rattle.std.proofs.Common.{◌≡◌, ℕ, ◌^◌, ◌<◌, ◌≤◌, List, length, refl, sym, subst, arith, Option}
use Rattle.std.specs.Prelude.{ℤ, pos, negsuc, Result, Ok, Err, IfErr}
use Rattle.bcder_number.specs.bcder_tree.declared.mode.Mode.{Mode}
use Rattle.bcder_number.specs.bcder_tree.declared.mode.Mode.TheVariants.{Cer, Der}
use Rattle.bcder_number.specs.bcder_primitive.Values.{AnyOctets, IsSigned, IsWithin}
use Rattle.bcder_number.specs.bcder_primitive.declared.written.error.EncodeError.{EncodeError}
use Rattle.bcder_number.specs.bcder_primitive.declared.written.error.EncodeError.TheVariants as errors
use Rattle.bcder_number.specs.bcder_primitive.Contents.{NoContent, ContentRefused, BytesRefused}
use Rattle.bcder_number.specs.bcder_primitive.Integers.{WritesUnsigned}
use Rattle.bcder_number.specs.Integers.{IsInteger}
use Rattle.bcder_number.specs.bcder_primitive.Integers.{steps_of}
use Rattle.bcder_number.specs.Contents.{content, content_is, few_octets, one_integer}

-- Few octets are refused for lack of memory alone.
pub only_memory : (P : List ℕ → Type 0) (r : Result (List ℕ) EncodeError) (v : List ℕ) → P v → length v ≤ 17 → IfErr r (BytesRefused Der P) → IfErr r (λ e. e ≡ errors.Memory)
only_memory P (Ok x) v is few h = tt
only_memory P (Err errors.CerUnsupported) v is few h = let e : Der ≡ Cer = h.0 in absurd cc
only_memory P (Err errors.TooLong) v is few h = absurd (h v is (omega arith))
only_memory P (Err errors.Write) v is few h = absurd h
only_memory P (Err errors.Memory) v is few h = refl

steps_within : (x : ℤ) → IsWithin (2 ^ 127) x → steps_of x < 2 ^ 128
steps_within (pos n) low = omega arith
steps_within (negsuc n) low = omega arith

pub signed_memory : (x : ℤ) (r : Result (List ℕ) EncodeError) → IsWithin (2 ^ 127) x → IfErr r (BytesRefused Der (λ v. IsSigned (2 ^ 127) v x)) → IfErr r (λ e. e ≡ errors.Memory)
signed_memory x r low h =
    let is = content_is x in
    only_memory (λ v. IsSigned (2 ^ 127) v x) r (content x) (record { octets = is.octets; shortest = is.shortest; value = is.value; within = low }) (few_octets x (steps_within x low)) h

pub unsigned_memory : (n : ℕ) (r : Result (List ℕ) EncodeError) → n < 2 ^ 128 → IfErr r (BytesRefused Der (WritesUnsigned (2 ^ 128) n)) → IfErr r (λ e. e ≡ errors.Memory)
unsigned_memory n r low h =
    let is = content_is (pos n) in
    only_memory (WritesUnsigned (2 ^ 128) n) r (content (pos n)) (record { octets = is.octets; is = record { shortest = is.shortest; positive = is.value.0; value = is.value.1; below = low } }) (few_octets (pos n) low) h

-- The octets of a number from 0 up.
pub unsigned_integer : {bound n : ℕ} {v : List ℕ} → WritesUnsigned bound n v → IsInteger v (pos n)
unsigned_integer w = record { octets = w.octets; shortest = w.is.shortest; value = (w.is.positive, w.is.value) }

no_content : (m : Mode) (P Q : List ℕ → Type 0) (e : EncodeError) → ((t : List ℕ) → Q t → P t) → NoContent m P e → NoContent m Q e
no_content m P Q errors.CerUnsupported f h = (h.0, λ t q. h.1 t (f t q))
no_content m P Q errors.TooLong f h = λ t q few. h t (f t q) few
no_content m P Q errors.Write f h = h
no_content m P Q errors.Memory f h = h

-- Octets that aren't written are no content that could be.
pub len_refused : (m : Mode) (v : List ℕ) (x : ℤ) (r : Result ℕ EncodeError) → IsInteger v x → IfErr r (NoContent m (λ t. AnyOctets t v)) → IfErr r (NoContent m (λ t. IsInteger t x))
len_refused m v x (Ok n) is h = tt
len_refused m v x (Err e) is h = no_content m (λ t. AnyOctets t v) (λ t. IsInteger t x) e (λ t q. record { same = one_integer x t v q is }) h

write_cases : (m : Mode) (v : List ℕ) (x : ℤ) (same : Type 0) (old new : Option (List ℕ)) (e : EncodeError) → IsInteger v x → ContentRefused m (λ t. AnyOctets t v) same old new e → ContentRefused m (λ t. IsInteger t x) same old new e
write_cases m v x same old new errors.CerUnsupported is h = (no_content m (λ t. AnyOctets t v) (λ t. IsInteger t x) errors.CerUnsupported (λ t q. record { same = one_integer x t v q is }) h.0, h.1)
write_cases m v x same old new errors.TooLong is h = (no_content m (λ t. AnyOctets t v) (λ t. IsInteger t x) errors.TooLong (λ t q. record { same = one_integer x t v q is }) h.0, h.1)
write_cases m v x same old new errors.Write is h = record { text = h.text; is = subst (λ (t : List ℕ). IsInteger t x) (sym h.is.same) is; taken = h.taken; others = h.others; whole = h.whole; some = h.some; appended = h.appended }
write_cases m v x same old new errors.Memory is h = h

pub write_refused : {T : Type 0} (m : Mode) (v : List ℕ) (x : ℤ) (same : Type 0) (old new : Option (List ℕ)) (r : Result T EncodeError) → IsInteger v x → IfErr r (ContentRefused m (λ t. AnyOctets t v) same old new) → IfErr r (ContentRefused m (λ t. IsInteger t x) same old new)
write_refused m v x same old new (Ok n) is h = tt
write_refused m v x same old new (Err e) is h = write_cases m v x same old new e is h
