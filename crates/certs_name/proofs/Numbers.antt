-- Numbers that octets spell, octet by octet.
use Rattle.std.proofs.Common.{◌≡◌, ℕ, zero, suc, ◌+◌, ◌*◌, ◌/◌, ◌%◌, ◌^◌, ◌<◌, ◌≤◌, List, [], ◌∷◌, ◌++◌, get_or, length, drop, refl, sym, ap, ◌∙◌, subst, arith, drop-cons, Fits, w8, Option}
use Rattle.std.proofs.Math.Nat.{pow-succ'}
use Rattle.std.proofs.Math.Arith.{mod-mul}
use Rattle.std.specs.Int.{byte_at, bytes_high_first}
use Rattle.std.specs.Prelude.{ℤ, pos, Result, Ok, Err, IfOk, OnOk}
use Rattle.certs_name.specs.bcder_tree.Integers.{number_behind, IsShortest}
use Rattle.certs_name.specs.bcder_primitive.Values.{AnyOctets, IsTwosComplement}
use Rattle.certs_name.proofs.of_bcder_primitive.Numbers.{all_octets}
use Rattle.certs_basics.proofs.of_bcder_tree.Digits.{further}
use Rattle.certs_name.specs.bcder_primitive.declared.written.error.EncodeError.{EncodeError}
use Rattle.certs_name.specs.bcder_primitive.Writing.{HasLength, Wrote}
use Rattle.certs_name.specs.bcder_number.Integers.{IsInteger}

-- What is read after a number makes it no smaller.
pub no_smaller : (b : ℕ) (v : List ℕ) → b ≤ number_behind b v
no_smaller b [] = omega arith
no_smaller b (a ∷ v) = omega (arith, no_smaller (b * 256 + a) v)

-- The number that is completed is no smaller than that after the next octet.
pub no_smaller_next : (i b : ℕ) (octets : List ℕ) → i < length octets → b * 256 + get_or octets i 0 ≤ number_behind b (drop i octets)
no_smaller_next i b octets there =
    let e = drop-cons octets i 0 there in
    subst (λ (v : List ℕ). b * 256 + get_or octets i 0 ≤ number_behind b v) (sym e) (no_smaller (b * 256 + get_or octets i 0) (drop (suc i) octets))

-- Octets after others count after their number.
pub behind_append : (b : ℕ) (v w : List ℕ) → number_behind b (v ++ w) ≡ number_behind (number_behind b v) w
behind_append b [] w = refl
behind_append b (a ∷ v) w = behind_append (b * 256 + a) v w

-- The lowest octets of a number, the highest of them first.
digit_more : (k n p : ℕ) → (p * 256 + byte_at k n) * 256 ^ k + n % 256 ^ k ≡ p * 256 ^ suc k + n % 256 ^ suc k
digit_more zero n p = omega arith
digit_more (suc k) n p =
    let place : 0 < 256 ^ suc k = further 0 (suc k) (omega arith) in
    let split : n % (256 * 256 ^ suc k) ≡ (n / 256 ^ suc k % 256) * 256 ^ suc k + n % 256 ^ suc k = mod-mul n {m = 256} {c = 256 ^ suc k} (omega arith) place in
    let wider : 256 ^ suc (suc k) ≡ 256 * 256 ^ suc k = pow-succ' 256 (suc k) in
    let low : n % 256 ^ suc (suc k) ≡ n % (256 * 256 ^ suc k) = ap (λ m. n % m) wider in
    omega (arith, split, low, ap (λ m. p * m) wider)

digits_spell : (k n p : ℕ) → number_behind p (bytes_high_first k n) ≡ p * 256 ^ k + n % 256 ^ k
digits_spell zero n p = omega arith
digits_spell (suc k) n p = digits_spell k n (p * 256 + byte_at k n) ∙ digit_more k n p

-- The octets of a number's halves, after a zero.
pub halves_spell : (high low n : ℕ) → high < 2 ^ 32 → low < 2 ^ 128 → high * 2 ^ 128 + low ≡ n → IsTwosComplement (0 ∷ (bytes_high_first 4 high ++ bytes_high_first 16 low)) (pos n)
halves_spell high low n h l e =
    let first : number_behind 0 (bytes_high_first 4 high) ≡ high = digits_spell 4 high 0 ∙ omega arith in
    let both = behind_append 0 (bytes_high_first 4 high) (bytes_high_first 16 low) ∙ ap (λ (z : ℕ). number_behind z (bytes_high_first 16 low)) first ∙ digits_spell 16 low high in
    (omega arith, omega (arith, both))

-- Octets of a number in two's complement, as few as can be, are its content.
pub content_is : {v : List ℕ} {n : ℕ} → ((i : ℕ) → Fits w8 (get_or v i 0)) → IsShortest v → IsTwosComplement v (pos n) → IsInteger v (pos n)
content_is {v} fits shortest is = record { octets = all_octets v fits; shortest = shortest; value = is }

-- What is written of the content is written of the number.
pub len_written : (v : List ℕ) (x : ℤ) (r : Result ℕ EncodeError) → IsInteger v x → IfOk r (HasLength (λ t. AnyOctets t v)) → IfOk r (HasLength (λ t. IsInteger t x))
len_written v x (Ok n) is h = record { text = h.text; is = subst (λ (t : List ℕ). IsInteger t x) (sym h.is.same) is; long = h.long }
len_written v x (Err e) is h = tt

pub all_written : {T : Type 0} (v : List ℕ) (x : ℤ) (old new : Option (List ℕ)) (r : Result T EncodeError) → IsInteger v x → OnOk r (Wrote (λ t. AnyOctets t v) old new) → OnOk r (Wrote (λ t. IsInteger t x) old new)
all_written v x old new (Ok n) is h = record { text = h.text; is = subst (λ (t : List ℕ). IsInteger t x) (sym h.is.same) is; appended = h.appended }
all_written v x old new (Err e) is h = tt
