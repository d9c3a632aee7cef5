-- Hexadecimal digits of either case spell one digest.
use Rattle.std.proofs.Common.{◌≡◌, ℕ, zero, suc, ◌+◌, ◌*◌, ◌/◌, ◌%◌, ◌<◌, ◌==◌, nat_le, if◌then◌else◌, Bool, true, ◌&&◌, inl, inr, List, [], ◌∷◌, length, map, slice_index, Option, Some, None, is_some, Ok, refl, sym, ap, ◌∙◌, arith}
use Rattle.std.proofs.lemmas.Bool.{and_parts, cases_lt, eqb-true}
use Rattle.std.proofs.lemmas.List.{length-map}
use Rattle.std.proofs.lemmas.List.Elements.{All-cons, All-head, All-nil, All-tail}
use Rattle.std.specs.List.{AllPass}
use Rattle.hex.specs.Hex.{decode_of, decode_pairs, decode_sized, digit_or_error, encode_lower, encode_with, hex_digit_value, is_hex_digit, lower_digits, pair_value, value_at}
use Rattle.hex.proofs.HexLemmas.{decode_of-encode_lower, decode_of-even, decode_of-ok, decode_of-same, decode_sized-ok, decode_sized-twice}
use Rattle.hex.proofs.Pairs.{cons_byte, decode_pairs-ok_pair}
use Rattle.rpki_commands.specs.certs_basics.Uris.{lower}
use Rattle.rpki_commands.specs.Verdicts.{IsHex}

-- a value below 16 as a lower-case digit
abbrev shown : ℕ → ℕ
shown v = if nat_le v 9 then 48 + v else 87 + v

-- the table has these digits at its first n places
abbrev shows : ℕ → Bool
shows zero = true
shows (suc n) = (slice_index lower_digits n == shown n) && shows n

shows_at : (n k : ℕ) → shows n ≡ true → k < n → slice_index lower_digits k ≡ shown k
shows_at zero k h lt = absurd (omega arith)
shows_at (suc n) k h lt =
    let parts = and_parts (slice_index lower_digits n == shown n) (shows n) h in
    elim (cases_lt k n) [
      | inl below ↦ shows_at n k parts.1 below
      | inr top ↦
          let e : k ≡ n = omega arith in
          rw e (eqb-true (slice_index lower_digits n) (shown n) parts.0)
    ]

-- the value of a digit, and the digit in lower case
small_value : (c v : ℕ) → hex_digit_value c ≡ Some v → v < 16
small_value c v h = grind (arith)

lower_shown : (c v : ℕ) → hex_digit_value c ≡ Some v → lower c ≡ shown v
lower_shown c v h = grind (arith)

lower_digit : (c v : ℕ) → hex_digit_value c ≡ Some v → lower c ≡ slice_index lower_digits v
lower_digit c v h = lower_shown c v h ∙ sym (shows_at 16 v refl (small_value c v h))

value_lower : (c : ℕ) → hex_digit_value (lower c) ≡ hex_digit_value c
value_lower c = grind (arith)

some_of : (o : Option ℕ) → is_some o ≡ true → (v : ℕ) × (o ≡ Some v)
some_of (Some v) h = (v, refl)
some_of None h = cc h

abbrev IsDigit : ℕ → Type 0
IsDigit c = is_hex_digit c ≡ true

digits_lower : (s : List ℕ) → AllPass is_hex_digit (map lower s) → AllPass is_hex_digit s
digits_lower [] h = All-nil IsDigit
digits_lower (c ∷ s) h =
    let first : is_hex_digit (lower c) ≡ true = All-head IsDigit (lower c) (map lower s) h in
    All-cons IsDigit c s (ap is_some (sym (value_lower c)) ∙ first) (digits_lower s (All-tail IsDigit (lower c) (map lower s) h))

-- pairs of digits are read, and written in lower case they are the digits of what was read
hex_read : (i : ℕ) (s : List ℕ) → length s % 2 ≡ 0 → AllPass is_hex_digit s → (octets : List ℕ) × (decode_pairs i s ≡ Ok octets) × (map lower s ≡ encode_lower octets)
unfolding decode_pairs encode_with
hex_read i [] even h = ([], refl, refl)
hex_read i (a ∷ []) even h = absurd (omega arith)
hex_read i (a ∷ b ∷ rest) even h =
    let tail = All-tail IsDigit a (b ∷ rest) h in
    let va = some_of (hex_digit_value a) (All-head IsDigit a (b ∷ rest) h) in
    let vb = some_of (hex_digit_value b) (All-head IsDigit b rest tail) in
    let ih = hex_read (i + 2) rest (omega arith) (All-tail IsDigit b rest tail) in
    let sa = small_value a va.0 va.1 in
    let sb = small_value b vb.0 vb.1 in
    let ra : value_at a i ≡ Ok va.0 = ap (digit_or_error a i) va.1 in
    let rb : value_at b (i + 1) ≡ Ok vb.0 = ap (digit_or_error b (i + 1)) vb.1 in
    let pair : pair_value a b i ≡ Ok (va.0 * 16 + vb.0) = rw (ra, rb) refl in
    let high : (va.0 * 16 + vb.0) / 16 ≡ va.0 = omega arith in
    let low : (va.0 * 16 + vb.0) % 16 ≡ vb.0 = omega arith in
    let la : lower a ≡ slice_index lower_digits ((va.0 * 16 + vb.0) / 16) = lower_digit a va.0 va.1 ∙ ap (slice_index lower_digits) (sym high) in
    let lb : lower b ≡ slice_index lower_digits ((va.0 * 16 + vb.0) % 16) = lower_digit b vb.0 vb.1 ∙ ap (slice_index lower_digits) (sym low) in
    let more : map lower rest ≡ encode_lower ih.0 = ih.2 in (
      (va.0 * 16 + vb.0) ∷ ih.0,
      decode_pairs-ok_pair i a b _ rest pair ∙ ap (cons_byte (va.0 * 16 + vb.0)) ih.1,
      cc,
    )

-- what `hex` reads is spelled so,
pub hex_from_decoded : (s d : List ℕ) → decode_sized s 32 ≡ Ok d → IsHex s d
hex_from_decoded s d h =
    let len = decode_sized-ok s 32 d h in
    let read : decode_of s ≡ Ok d = sym (decode_sized-twice s 32 len) ∙ h in
    let parts = decode_of-ok s d read in
    let r = hex_read 0 s parts.0 parts.1 in
    let same : d ≡ r.0 = decode_of-same s d r.0 read (decode_of-even s parts.0 ∙ r.1) in
    record { size = omega (arith, parts.2); octets = parts.3; digits_are = r.2 ∙ ap encode_lower (sym same) }

-- a digest has 64 digits,
pub hex_length : (s d : List ℕ) → IsHex s d → length s ≡ 64
hex_length s d i =
    let parts = decode_of-ok (encode_lower d) d (decode_of-encode_lower d i.octets) in
    omega (arith, length-map s lower, ap length i.digits_are, parts.2, i.size)

-- and what is spelled so is read.
pub decoded_from_hex : (s d : List ℕ) → IsHex s d → decode_sized s 32 ≡ Ok d
decoded_from_hex s d i =
    let len = hex_length s d i in
    let even : length s % 2 ≡ 0 = omega arith in
    let written : decode_of (encode_lower d) ≡ Ok d = decode_of-encode_lower d i.octets in
    let lowered : decode_of (map lower s) ≡ Ok d = ap decode_of i.digits_are ∙ written in
    let r = hex_read 0 s even (digits_lower s (decode_of-ok (map lower s) d lowered).1) in
    let read : decode_of s ≡ Ok r.0 = decode_of-even s even ∙ r.1 in
    let again : decode_of (encode_lower r.0) ≡ Ok r.0 = decode_of-encode_lower r.0 (decode_of-ok s r.0 read).3 in
    let texts : encode_lower d ≡ encode_lower r.0 = sym i.digits_are ∙ r.2 in
    let same : r.0 ≡ d = decode_of-same (encode_lower d) r.0 d (ap decode_of texts ∙ again) written in
    decode_sized-twice s 32 (omega (arith, len)) ∙ read ∙ ap Ok same

pub one_digest : (s d e : List ℕ) → IsHex s d → IsHex s e → d ≡ e
one_digest s d e i j =
    let same : Ok d ≡ decode_sized s 32 = sym (decoded_from_hex s d i) in
    let other : decode_sized s 32 ≡ Ok e = decoded_from_hex s e j in
    cc
