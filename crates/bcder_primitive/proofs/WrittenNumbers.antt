-- The octets of numbers in two's complement (X.690 8.3.3), and those in front that only repeat the sign.
use Rattle.std.proofs.Common.{◌≡◌, ℕ, zero, suc, ◌+◌, ◌-◌, ◌*◌, ◌/◌, ◌%◌, ◌^◌, ◌<◌, ◌≤◌, ◌⊎◌, List, [], ◌∷◌, length, All, take, drop, sym, refl, ap, ◌∙◌, subst, arith, inl, inr, Option, length-drop}
use Rattle.std.proofs.Math.Nat.{pow-succ', lt_of_mul-lt-mul_right}
use Rattle.std.proofs.Math.Pow.{pow_mono}
use Rattle.std.proofs.lemmas.Nat.{pow-add, leading_length}
use Rattle.std.proofs.lemmas.List.Elements.{All-head, All-tail, All-drop, All-cons}
use Rattle.std.specs.Int.Count.{count_leading_zeros}
use Rattle.std.proofs.Math.Arith.{mod-mul}
use Rattle.std.proofs.lemmas.Bool.{cases_lt}
use mir.Val.{SFits, hbits, of_z, to_z}
use mir.Syntax.{Width, w128}
use Rattle.std.proofs.Math.Facts.{to_z-of_z}
use Rattle.std.specs.Prelude.{ℤ, pos, negsuc}
use Rattle.std.specs.Int.{byte_at, bytes_high_first}
use Rattle.bcder_primitive.specs.bcder_tree.Integers.{number_behind, IsShortest}
use Rattle.bcder_primitive.proofs.of_bcder_tree.Slices.{rest_is}
use Rattle.bcder_primitive.specs.Values.{IsSigned, IsTwosComplement, IsWithin}
use Rattle.bcder_primitive.proofs.of_bcder_tree.Digits.{further, number_low, number_high}
use Rattle.std.specs.Prelude.{Result, Ok, Err, IfErr}
use Rattle.bcder_primitive.specs.bcder_tree.declared.mode.Mode.{Mode}
use Rattle.bcder_primitive.specs.declared.written.error.EncodeError.{EncodeError}
use Rattle.bcder_primitive.specs.declared.written.error.EncodeError.TheVariants as errors
use Rattle.bcder_primitive.specs.Contents.{ContentRefused}
use Rattle.bcder_primitive.specs.Writing.{TookFront, HasLength}
use Rattle.bcder_primitive.proofs.Pieces.{front_as}
use Rattle.bcder_primitive.specs.Integers.{WritesUnsigned, IsFewest, steps_of, near}

-- A number in front counts at its place.
shifted : (p c : ℕ) (v : List ℕ) → number_behind (p + c) v ≡ p * 256 ^ length v + number_behind c v
shifted p c [] = omega arith
shifted p c (a ∷ v) =
    let e : (p + c) * 256 + a ≡ p * 256 + (c * 256 + a) = omega arith in
    omega (arith, ap (λ n. number_behind n v) e, shifted (p * 256) (c * 256 + a) v, ap (λ n. p * n) (pow-succ' 256 (length v)))

-- The first of two octets in front only repeats the sign of the second (8.3.2).
abbrev Repeats : ℕ → ℕ → Type 0
Repeats a b = ((a ≡ 0) × (b < 128)) ⊎ ((a ≡ 255) × (128 ≤ b))

-- Without such an octet the number is the same.
behind_repeated : (a b : ℕ) (v : List ℕ) (x : ℤ) → Repeats a b → IsTwosComplement (a ∷ b ∷ v) x → IsTwosComplement (b ∷ v) x
behind_repeated a b v (pos n) (inl r) is =
    let e : (0 * 256 + a) * 256 + b ≡ 0 * 256 + b = omega (arith, r.0) in
    (r.1, sym (ap (λ k. number_behind k v) e) ∙ is.1)
behind_repeated a b v (pos n) (inr r) is = absurd (omega (arith, r.0, is.0))
behind_repeated a b v (negsuc k) (inl r) is = absurd (omega (arith, r.0, is.0))
behind_repeated a b v (negsuc k) (inr r) is =
    let e : (0 * 256 + a) * 256 + b ≡ 65280 + (0 * 256 + b) = omega (arith, r.0) in
    (r.1, omega (arith, ap (λ n. number_behind n v) e, shifted 65280 (0 * 256 + b) v, is.1, pow-succ' 256 (suc (length v)), pow-succ' 256 (length v)))

-- Octets repeat the sign in front where the others reach far enough.
repeats_near : (a b : ℕ) (v : List ℕ) (x : ℤ) → All (λ a. a < 256) (a ∷ b ∷ v) → IsTwosComplement (a ∷ b ∷ v) x → steps_of x < 128 * 256 ^ length v → Repeats a b
repeats_near a b v (pos n) all is close =
    let c : ℕ = (0 * 256 + a) * 256 + b in
    let low : c < 128 = lt_of_mul-lt-mul_right (256 ^ length v) (omega (arith, number_low c v, is.1, close)) in
    inl (omega (arith, low), omega (arith, low))
repeats_near a b v (negsuc k) all is close =
    let c : ℕ = (0 * 256 + a) * 256 + b in
    let others : All (λ a. a < 256) (b ∷ v) = All-tail (λ a. a < 256) a (b ∷ v) all in
    let first : a < 256 = All-head (λ a. a < 256) a (b ∷ v) all in
    let second : b < 256 = All-head (λ a. a < 256) b v others in
    let high : 65408 < c + 1 = lt_of_mul-lt-mul_right (256 ^ length v) (omega (arith, number_high c v (All-tail (λ a. a < 256) b v others), is.1, close, pow-succ' 256 (suc (length v)), pow-succ' 256 (length v))) in
    inr (omega (arith, first, second, high), omega (arith, first, second, high))

-- Without as many octets in front as the number doesn't need, it is the same.
dropped_same : (j : ℕ) (s : List ℕ) (x : ℤ) → All (λ a. a < 256) s → IsTwosComplement s x → j < length s → steps_of x < 128 * 256 ^ (length s - j - 1) → IsTwosComplement (drop j s) x
dropped_same zero s x all is there close = is
dropped_same (suc j) [] x all is there close = absurd (omega arith)
dropped_same (suc j) (a ∷ []) x all is there close = absurd (omega arith)
dropped_same (suc j) (a ∷ b ∷ v) x all is there close =
    let left : suc (suc (length v)) - suc j - 1 ≡ suc (length v) - j - 1 = omega arith in
    let near : steps_of x < 128 * 256 ^ (suc (length v) - j - 1) = subst (λ k. steps_of x < 128 * 256 ^ k) left close in
    let reach : 256 ^ (suc (length v) - j - 1) ≤ 256 ^ length v = further (suc (length v) - j - 1) (length v) (omega arith) in
    dropped_same j (b ∷ v) x (All-tail (λ a. a < 256) a (b ∷ v) all) (behind_repeated a b v x (repeats_near a b v x all is (omega (arith, near, reach))) is) (omega arith) near

-- Octets are shortest without whose first the number wouldn't be reached.
far_shortest : (s : List ℕ) (x : ℤ) → All (λ a. a < 256) s → IsTwosComplement s x → 1 ≤ length s → (2 ≤ length s → 128 * 256 ^ (length s - 2) ≤ steps_of x) → IsShortest s
far_shortest [] x all is there far = absurd (omega arith)
far_shortest (a ∷ []) x all is there far = tt
far_shortest (a ∷ b ∷ v) x all is there far =
    let left : suc (suc (length v)) - 2 ≡ length v = omega arith in
    let reach : 128 * 256 ^ length v ≤ steps_of x = subst (λ k. 128 * 256 ^ k ≤ steps_of x) left (far (omega arith)) in
    let no_repeat : Repeats a b → ⊥ = λ r. omega (arith, near b v x (All-tail (λ a. a < 256) a (b ∷ v) all) (behind_repeated a b v x r is), reach) in (
      λ e. elim (cases_lt b 128) [
        | inl l ↦ absurd (no_repeat (inl (e, l)))
        | inr l ↦ l
      ],
      λ e. elim (cases_lt b 128) [
        | inl l ↦ l
        | inr l ↦ absurd (no_repeat (inr (e, l)))
      ],
    )

-- The last octets of a number, as few as it takes.
fewest_last : (s : List ℕ) (x : ℤ) (n : ℕ) → All (λ a. a < 256) s → IsTwosComplement s x → IsFewest (steps_of x) n → n ≤ length s
    → IsShortest (drop (length s - n) s) × IsTwosComplement (drop (length s - n) s) x × (length (drop (length s - n) s) ≡ n)
fewest_last s x n all is f there =
    let j : ℕ = length s - n in
    let long : length (drop j s) ≡ n = omega (arith, length-drop j s, there) in
    let place : length s - j - 1 ≡ n - 1 = omega (arith, there) in
    let same : IsTwosComplement (drop j s) x = dropped_same j s x all is (omega (arith, f.some, there)) (subst (λ k. steps_of x < 128 * 256 ^ k) (sym place) f.enough) in
    let far : 2 ≤ length (drop j s) → 128 * 256 ^ (length (drop j s) - 2) ≤ steps_of x = subst (λ k. 2 ≤ k → 128 * 256 ^ (k - 2) ≤ steps_of x) (sym long) f.least in
    (far_shortest (drop j s) x (All-drop (λ a. a < 256) j s all) same (omega (arith, long, f.some)) far, same, long)

-- No more octets are the fewest than reach so far.
pub fewest_few : (steps n k : ℕ) → IsFewest steps n → steps < 128 * 256 ^ k → n ≤ k + 1
fewest_few steps n k f close =
    elim (cases_lt n (k + 2)) [
      | inl l ↦ omega (arith, l)
      | inr l ↦ absurd (omega (arith, f.least (omega (arith, l)), further k (n - 2) (omega (arith, l)), close))
    ]

-- The same of a slice from there.
pub last_shortest : (s : List ℕ) (x : ℤ) (n : ℕ) → All (λ a. a < 256) s → IsTwosComplement s x → IsFewest (steps_of x) n → n ≤ length s → IsShortest (take (length s - (length s - n)) (drop (length s - n) s))
last_shortest s x n all is f there = subst IsShortest (sym (rest_is (length s - n) s)) (fewest_last s x n all is f there).0

pub last_same : (s : List ℕ) (x : ℤ) (n : ℕ) → All (λ a. a < 256) s → IsTwosComplement s x → IsFewest (steps_of x) n → n ≤ length s → IsTwosComplement (take (length s - (length s - n)) (drop (length s - n) s)) x
last_same s x n all is f there = subst (λ t. IsTwosComplement t x) (sym (rest_is (length s - n) s)) (fewest_last s x n all is f there).1

-- Powers of 256 are powers of two.
octets_bits : (i : ℕ) → 256 ^ i ≡ 2 ^ (8 * i)
octets_bits zero = refl
octets_bits (suc i) =
    let place : 8 + 8 * i ≡ 8 * suc i = omega arith in
    omega (arith, pow-succ' 256 i, octets_bits i, pow-add 2 8 (8 * i), ap (λ j. 2 ^ j) place)

-- So many bits stand in so few octets, a sign in front of them.
fewest_bits : (n m : ℕ) → n < 2 ^ m → 2 ^ m ≤ 2 * n + 1 → (q : ℕ) → 8 * q ≤ m → m ≤ 7 + 8 * q → IsFewest n (suc q)
fewest_bits n m low high q some most =
    let wide : 2 ^ m ≤ 2 ^ (7 + 8 * q) = pow_mono most in
    record {
      some = omega arith;
      enough = let left : q ≡ suc q - 1 = omega arith in subst (λ k. n < 128 * 256 ^ k) left (omega (arith, low, wide, pow-add 2 7 (8 * q), octets_bits q));
      least = at q some;
    }
  where
    at : (q : ℕ) → 8 * q ≤ m → 2 ≤ suc q → 128 * 256 ^ (suc q - 2) ≤ n
    at zero some two = absurd (omega (arith, two))
    at (suc r) some two =
        let wide : 2 ^ (8 * suc r) ≤ 2 ^ m = pow_mono some in
        let reach : 128 * 256 ^ r ≤ n = omega (arith, wide, high, octets_bits (suc r), pow-succ' 256 r) in
        let left : r ≡ suc (suc r) - 2 = omega arith in
        subst (λ k. 128 * 256 ^ k ≤ n) left reach

-- And as many as a count of the zeros in front leaves.
pub fewest_counted : (n : ℕ) → n < 2 ^ 128 → IsFewest n ((128 - count_leading_zeros 128 n) / 8 + 1)
fewest_counted n low =
    let bits = leading_length 128 n low in
    let is : (128 - count_leading_zeros 128 n) / 8 + 1 ≡ suc (bits.0 / 8) = omega (arith, bits.1) in
    subst (λ k. IsFewest n k) (sym is) (fewest_bits n bits.0 bits.2 bits.3 (bits.0 / 8) (omega arith) (omega arith))

-- The lowest octets of a number, the highest of them first.
digit_more : (k n p : ℕ) → (p * 256 + byte_at k n) * 256 ^ k + n % 256 ^ k ≡ p * 256 ^ suc k + n % 256 ^ suc k
digit_more zero n p = omega arith
digit_more (suc k) n p =
    let place : 0 < 256 ^ suc k = further 0 (suc k) (omega arith) in
    let split : n % (256 * 256 ^ suc k) ≡ (n / 256 ^ suc k % 256) * 256 ^ suc k + n % 256 ^ suc k = mod-mul n {m = 256} {c = 256 ^ suc k} (omega arith) place in
    let wider : 256 ^ suc (suc k) ≡ 256 * 256 ^ suc k = pow-succ' 256 (suc k) in
    let low : n % 256 ^ suc (suc k) ≡ n % (256 * 256 ^ suc k) = ap (λ m. n % m) wider in
    omega (arith, split, low, ap (λ m. p * m) wider)

digits_spell : (k n p : ℕ) → number_behind p (bytes_high_first k n) ≡ p * 256 ^ k + n % 256 ^ k
digits_spell zero n p = omega arith
digits_spell (suc k) n p = digits_spell k n (p * 256 + byte_at k n) ∙ digit_more k n p

-- These are octets.
byte_small : (k n : ℕ) → byte_at k n < 256
byte_small zero n = omega arith
byte_small (suc k) n = let m : ℕ = n / 256 ^ suc k in let e : m % 256 < 256 = omega arith in e

-- Sixteen octets of a number below 2^128, after a zero.
pub padded_spells : (n : ℕ) → n < 2 ^ 128 → IsTwosComplement (0 ∷ bytes_high_first 16 n) (pos n)
padded_spells n low = (omega arith, digits_spell 16 n 0 ∙ omega arith)

-- Sixteen octets of a number from -2^127 up and below 2^127.
pub signed_spells : (x : ℤ) → IsWithin (2 ^ 127) x → IsTwosComplement (bytes_high_first 16 (of_z w128 x)) x
signed_spells (pos n) low = (omega arith, digits_spell 16 n 0 ∙ omega arith)
signed_spells (negsuc k) low =
    let e = digits_spell 16 (2 ^ 128 - suc k) 0 in
    (omega arith, omega (arith, e))

-- The shortest octets of a number are its content.
pub unsigned_is : {bound n : ℕ} {content : List ℕ} → All (λ a. a < 256) content → IsShortest content → IsTwosComplement content (pos n) → n < bound → WritesUnsigned bound n content
unsigned_is all shortest is low = record { octets = all; is = record { shortest = shortest; positive = is.0; value = is.1; below = low } }

pub signed_is : {bound : ℕ} {x : ℤ} {content : List ℕ} → All (λ a. a < 256) content → IsShortest content → IsTwosComplement content x → IsWithin bound x → IsSigned bound content x
signed_is all shortest is low = record { octets = all; shortest = shortest; value = is; within = low }

-- A number stands in as few of the octets that spell it.
last_written : {P : List ℕ → Type 0} (s : List ℕ) (x : ℤ) (n : ℕ) → All (λ a. a < 256) s → IsTwosComplement s x → IsFewest (steps_of x) n → n ≤ length s
    → ((content : List ℕ) → All (λ a. a < 256) content → IsShortest content → IsTwosComplement content x → P content) → HasLength P n
last_written s x n all is f there fits =
    let last = fewest_last s x n all is f there in
    let content : List ℕ = drop (length s - n) s in
    record { text = content; is = fits content (All-drop (λ a. a < 256) (length s - n) s all) last.0 last.1; long = last.2 }

octets_all : (k n : ℕ) → All (λ a. a < 256) (bytes_high_first k n)
octets_all zero n = λ i d h. absurd (omega (arith, h))
octets_all (suc k) n = All-cons (λ a. a < 256) (byte_at k n) (bytes_high_first k n) (byte_small k n) (octets_all k n)

pub unsigned_written : (bound x n : ℕ) → x < 2 ^ 128 → x < bound → IsFewest x n → HasLength (WritesUnsigned bound x) n
unsigned_written bound x n within low f =
    let few : n ≤ 17 = fewest_few x n 16 f (omega (arith, within)) in
    last_written (0 ∷ bytes_high_first 16 x) (pos x) n (All-cons (λ a. a < 256) 0 (bytes_high_first 16 x) (omega arith) (octets_all 16 x)) (padded_spells x within) f few (λ content all shortest is. unsigned_is all shortest is low)

pub signed_few : (x : ℤ) (n : ℕ) → IsWithin (2 ^ 127) x → IsFewest (steps_of x) n → n ≤ 16
signed_few (pos m) n within f = fewest_few m n 15 f (omega (arith, within))
signed_few (negsuc k) n within f = fewest_few k n 15 f (omega (arith, within))

pub signed_written : (bound : ℕ) (x : ℤ) (n : ℕ) → IsWithin (2 ^ 127) x → IsWithin bound x → IsFewest (steps_of x) n → HasLength (λ content. IsSigned bound content x) n
signed_written bound x n within low f =
    last_written (bytes_high_first 16 (of_z w128 x)) x n (octets_all 16 (of_z w128 x)) (signed_spells x within) f (signed_few x n within f) (λ content all shortest is. signed_is all shortest is low)

-- All of a text was written, or a front of it.
pub refused_that : (m : Mode) (P : List ℕ → Type 0) (same : Type 0) (old new : Option (List ℕ)) (r : Result (Unit {0}) EncodeError) (text : List ℕ) → P text
    → IfErr r (λ e. (e ≡ errors.Write) × TookFront (λ t. t ≡ text) old new) → IfErr r (ContentRefused m P same old new)
refused_that m P same old new (Ok x) text is h = tt
refused_that m P same old new (Err e) text is h = subst (ContentRefused m P same old new) (sym h.0) (front_as (λ t same. subst P (sym same) is) h.1)

-- A number is within the bound of its type.
pub within_type : (w : Width) (x : ℤ) → SFits w x → IsWithin (2 ^ hbits w) x
within_type w (pos n) fits = fits.sfits
within_type w (negsuc k) fits = fits.sfits

-- What holds of the 128-bit number that a number of a type is read as, holds of that number.
pub of_type : (w : Width) (P : ℤ → Type 0) (x y : ℤ) → SFits w x → SFits w128 x → y ≡ x → (IsWithin (2 ^ hbits w) (to_z w128 (of_z w128 y)) → P (to_z w128 (of_z w128 y))) → P x
of_type w P x y fits wide same is =
    let e : to_z w128 (of_z w128 y) ≡ x = ap (λ z. to_z w128 (of_z w128 z)) same ∙ to_z-of_z wide in
    subst P e (is (subst (IsWithin (2 ^ hbits w)) (sym e) (within_type w x fits)))
