-- The content octets of INTEGERs (X.690 8.3), and that a number has one shortest content.
use Rattle.std.proofs.Common.{◌≡◌, ℕ, suc, ◌+◌, ◌-◌, ◌*◌, ◌^◌, ◌<◌, ◌≤◌, List, [], ◌∷◌, length, All, refl, sym, ap, ◌∙◌, arith, inl, inr}
use Rattle.std.proofs.Math.Nat.{pow-succ', mul-le-mul_right}
use Rattle.std.proofs.lemmas.Bool.{cases_lt}
use Rattle.std.proofs.lemmas.List.Elements.{All-head, All-tail}
use Rattle.std.specs.Prelude.{ℤ, pos, negsuc}
use Rattle.bcder_primitive.specs.bcder_tree.Integers.{number_behind, number_of, IsShortest}
use Rattle.bcder_primitive.specs.Values.{IsUnsigned, IsSigned, IsTwosComplement}
use Rattle.bcder_source.proofs.of_bcder_tree.Digits.{number_low, number_high, further}

-- INTEGER (8.3): the octets of a number from 0 up, below a bound.
pub record WritesUnsigned (bound x : ℕ) (content : List ℕ) : Type 0 where
  pub octets : All (λ a. a < 256) content
  pub is : IsUnsigned bound content x

-- As many octets spell one number.
same_digits : (p q : ℕ) (v w : List ℕ) → length v ≡ length w → All (λ a. a < 256) v
    → All (λ a. a < 256) w → number_behind p v ≡ number_behind q w → (p ≡ q) × (v ≡ w)
same_digits p q [] [] n vs ws e = (e, refl)
same_digits p q [] (b ∷ w) n vs ws e = absurd (omega arith)
same_digits p q (a ∷ v) [] n vs ws e = absurd (omega arith)
same_digits p q (a ∷ v) (b ∷ w) n vs ws e =
    let rest = same_digits (p * 256 + a) (q * 256 + b) v w (omega arith) (All-tail (λ a. a < 256) a v vs) (All-tail (λ a. a < 256) b w ws) e in
    let first : a < 256 = All-head (λ a. a < 256) a v vs in
    let other : b < 256 = All-head (λ a. a < 256) b w ws in
    let digits : p * 256 + a ≡ q * 256 + b = rest.0 in
    let octet : a ≡ b = omega arith in
    let others : v ≡ w = rest.1 in
    (omega arith, cc)

-- How many steps a number is from 0, or from -1.
abbrev pub steps_of : ℤ → ℕ
steps_of (pos n) = n
steps_of (negsuc k) = k

-- In how few octets a number stands that is so many steps from 0 or from -1 (8.3.2).
pub record IsFewest (steps n : ℕ) : Type 0 where
  pub some : 1 ≤ n
  pub enough : steps < 128 * 256 ^ (n - 1)
  pub least : 2 ≤ n → 128 * 256 ^ (n - 2) ≤ steps

-- With octets after the first, a number reaches so far,
pub near : (a : ℕ) (v : List ℕ) (x : ℤ) → All (λ a. a < 256) (a ∷ v) → IsTwosComplement (a ∷ v) x
    → steps_of x < 128 * 256 ^ length v
near a v (pos n) all is =
    let low : a < 128 = is.0 in
    let p : (0 * 256 + a + 1) * 256 ^ length v ≤ 128 * 256 ^ length v =
    mul-le-mul_right (256 ^ length v) (omega arith) in
    omega (arith, number_high (0 * 256 + a) v (All-tail (λ a. a < 256) a v all), is.1)
near a v (negsuc k) all is =
    let p : 128 * 256 ^ length v ≤ (0 * 256 + a) * 256 ^ length v =
    mul-le-mul_right (256 ^ length v) (let h : 128 ≤ a = is.0 in omega arith) in
    omega (arith, number_low (0 * 256 + a) v, is.1, pow-succ' 256 (length v))

-- and where they are shortest, at least so far.
far : (a b : ℕ) (v : List ℕ) (x : ℤ) → All (λ a. a < 256) (a ∷ b ∷ v) → IsShortest (a ∷ b ∷ v)
    → IsTwosComplement (a ∷ b ∷ v) x → 128 * 256 ^ length v ≤ steps_of x
far a b v (pos n) all shortest is =
    let h : 128 ≤ (0 * 256 + a) * 256 + b = grind (arith, shortest.0) in
    let p : 128 * 256 ^ length v ≤ ((0 * 256 + a) * 256 + b) * 256 ^ length v =
    mul-le-mul_right (256 ^ length v) h in
    omega (arith, number_low ((0 * 256 + a) * 256 + b) v, is.1)
far a b v (negsuc k) all shortest is =
    let others : All (λ a. a < 256) (b ∷ v) = All-tail (λ a. a < 256) a (b ∷ v) all in
    let first : a < 256 = All-head (λ a. a < 256) a (b ∷ v) all in
    let second : b < 256 = All-head (λ a. a < 256) b v others in
    let h : (0 * 256 + a) * 256 + b + 1 ≤ 65408 = grind (arith, shortest.1) in
    let p : ((0 * 256 + a) * 256 + b + 1) * 256 ^ length v ≤ 65408 * 256 ^ length v =
    mul-le-mul_right (256 ^ length v) h in
    omega (
      arith,
      number_high ((0 * 256 + a) * 256 + b) v (All-tail (λ a. a < 256) b v others),
      is.1,
      pow-succ' 256 (suc (length v)),
      pow-succ' 256 (length v),
    )

-- No longer octets spell the number.
longer : {bound : ℕ} (v w : List ℕ) (x : ℤ) → IsSigned bound v x → IsSigned bound w x
    → length v < length w → ⊥
longer [] w x s t h = absurd s.shortest
longer (a ∷ v) [] x s t h = omega arith
longer (a ∷ v) (b ∷ []) x s t h = omega arith
longer (a ∷ v) (b ∷ c ∷ w) x s t h =
    omega (
      arith,
      near a v x s.octets s.value,
      far b c w x t.octets t.shortest t.value,
      further (length v) (length w) (omega arith),
    )

one_length : {bound : ℕ} (v w : List ℕ) (x : ℤ) → IsSigned bound v x → IsSigned bound w x
    → length v ≡ length w
one_length v w x s t =
    elim (cases_lt (length v) (length w)) [
      | inl l ↦ absurd (longer v w x s t l)
      | inr l ↦ elim (cases_lt (length w) (length v)) [
        | inl r ↦ absurd (longer w v x t s r)
        | inr r ↦ omega arith
      ]
    ]

one_value : (v w : List ℕ) (x : ℤ) → length v ≡ length w → IsTwosComplement v x
    → IsTwosComplement w x → number_of v ≡ number_of w
one_value v w (pos n) e p q = p.1 ∙ sym q.1
one_value v w (negsuc k) e p q = omega (arith, p.1, q.1, ap (λ n. 256 ^ n) e)

-- A number has one content.
pub one_signed : {bound : ℕ} (x : ℤ) (a b : List ℕ) → IsSigned bound a x → IsSigned bound b x
    → a ≡ b
one_signed x a b s t =
    let n = one_length a b x s t in
    (same_digits 0 0 a b n s.octets t.octets (one_value a b x n s.value t.value)).1

as_signed : {bound x : ℕ} {content : List ℕ} → WritesUnsigned bound x content
    → IsSigned bound content (pos x)
as_signed w = record {
  octets = w.octets;
  shortest = w.is.shortest;
  value = (w.is.positive, w.is.value);
  within = w.is.below;
}

pub one_unsigned : {bound : ℕ} (x : ℕ) (a b : List ℕ) → WritesUnsigned bound x a
    → WritesUnsigned bound x b → a ≡ b
one_unsigned x a b v w = one_signed (pos x) a b (as_signed v) (as_signed w)
