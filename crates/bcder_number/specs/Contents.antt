-- A number has one content, and a content is one number (X.690 8.3).
use Rattle.std.proofs.Common.{◌≡◌, ℕ, zero, suc, ◌+◌, ◌-◌, ◌*◌, ◌/◌, ◌%◌, ◌^◌, ◌<◌, ◌≤◌, List, [], ◌∷◌, ◌++◌, length, All, refl, sym, ap, ◌∙◌, subst, arith, inl, inr}
use Rattle.std.proofs.Math.Nat.{pow-succ'}
use Rattle.std.proofs.lemmas.Bool.{cases_lt}
use Rattle.std.proofs.lemmas.List.{length-append}
use Rattle.std.proofs.lemmas.List.Elements.{All-nil, All-cons, All-append}
use Rattle.std.specs.Prelude.{ℤ, pos, negsuc}
use Rattle.bcder_number.specs.bcder_tree.Integers.{number_behind, number_of, IsShortest, IsPositive}
use Rattle.bcder_number.specs.bcder_primitive.Values.{IsSigned, IsNegative, IsTwosComplement, IsWithin}
use Rattle.bcder_values.proofs.of_bcder_tree.Digits.{number_high, further}
use Rattle.bcder_number.specs.bcder_primitive.Integers.{near, one_signed, steps_of}
use Rattle.bcder_number.specs.Integers.{IsInteger, told}

-- Each number is within some bound,
within_steps : (x : ℤ) → IsWithin (steps_of x + 1) x
within_steps (pos n) = omega arith
within_steps (negsuc k) = omega arith

signed : {content : List ℕ} {x : ℤ} → IsInteger content x → IsSigned (steps_of x + 1) content x
signed {content} {x} is =
    record { octets = is.octets; shortest = is.shortest; value = is.value; within = within_steps x }

-- so it has one content.
pub one_integer : (x : ℤ) (a b : List ℕ) → IsInteger a x → IsInteger b x → a ≡ b
one_integer x a b s t = one_signed {bound = steps_of x + 1} x a b (signed s) (signed t)

-- Octets are one number in two's complement.
told_two : (content : List ℕ) (x : ℤ) → All (λ a. a < 256) content → IsTwosComplement content x
    → told content ≡ x
told_two [] (pos n) all is = absurd is.0
told_two [] (negsuc k) all is = absurd is.0
told_two (a ∷ v) (pos n) all is = grind (arith, is.0, is.1)
told_two (a ∷ v) (negsuc k) all is = grind (arith, is.0, is.1)

pub told_is : (content : List ℕ) (x : ℤ) → IsInteger content x → told content ≡ x
told_is content x is = told_two content x is.octets is.value

pub one_number : (content : List ℕ) (x y : ℤ) → IsInteger content x → IsInteger content y → x ≡ y
one_number content x y a b = sym (told_is content x a) ∙ told_is content y b

-- As few octets as can be are the content of the number that they are.
two_told : (content : List ℕ) → All (λ a. a < 256) content → IsShortest content
    → IsTwosComplement content (told content)
two_told [] all shortest = absurd shortest
two_told (a ∷ v) all shortest =
    elim (cases_lt a 128) [
      | inl l ↦
          let is : IsTwosComplement (a ∷ v) (pos (number_of (a ∷ v))) = (l, refl) in
          subst (λ (x : ℤ). IsTwosComplement (a ∷ v) x)
          (sym (told_two (a ∷ v) (pos (number_of (a ∷ v))) all is)) is
      | inr l ↦
          let k : ℕ = 256 ^ length (a ∷ v) - number_of (a ∷ v) - 1 in
          let high : number_behind 0 (a ∷ v) + 1 ≤ (0 + 1) * 256 ^ length (a ∷ v) =
          number_high 0 (a ∷ v) all in
          let is : IsTwosComplement (a ∷ v) (negsuc k) = (l, omega arith) in
          subst (λ (x : ℤ). IsTwosComplement (a ∷ v) x)
          (sym (told_two (a ∷ v) (negsuc k) all is)) is
    ]

pub integer_told : (content : List ℕ) → All (λ a. a < 256) content → IsShortest content
    → IsInteger content (told content)
integer_told content all shortest =
    record { octets = all; shortest = shortest; value = two_told content all shortest }

-- One octet more.
behind_more : (p : ℕ) (v : List ℕ) (r : ℕ)
    → number_behind p (v ++ r ∷ []) ≡ number_behind p v * 256 + r
behind_more p [] r = refl
behind_more p (a ∷ v) r = behind_more (p * 256 + a) v r

positive_more : (v w : List ℕ) → IsPositive v → IsPositive (v ++ w)
positive_more [] w h = absurd h
positive_more (a ∷ v) w h = h

negative_more : (v w : List ℕ) → IsNegative v → IsNegative (v ++ w)
negative_more [] w h = absurd h
negative_more (a ∷ v) w h = h

shortest_more : (v : List ℕ) (r : ℕ) → IsShortest v
    → ((a : ℕ) → v ≡ a ∷ [] → ((a ≡ 0) → 128 ≤ r) × ((a ≡ 255) → r < 128))
    → IsShortest (v ++ r ∷ [])
shortest_more [] r shortest one = absurd shortest
shortest_more (a ∷ []) r shortest one = one a refl
shortest_more (a ∷ b ∷ v) r shortest one = shortest

pub single : (r : ℕ) → r < 256 → All (λ a. a < 256) (r ∷ [])
single r low = All-cons (λ a. a < 256) r [] low (All-nil (λ a. a < 256))

-- A content of a number, of so many octets at most.
abbrev Has : ℕ → ℤ → Type 0
Has most x = (v : List ℕ) × IsInteger v x × (length v ≤ most)

more : (v : List ℕ) (q x : ℤ) (r most : ℕ) → IsInteger v q → length v ≤ most → r < 256
    → IsShortest (v ++ r ∷ []) → IsTwosComplement (v ++ r ∷ []) x → Has (suc most) x
more v q x r most is few low shortest value = (
  v ++ r ∷ [],
  record {
    octets = All-append (λ a. a < 256) v (r ∷ []) is.octets (single r low);
    shortest = shortest;
    value = value;
  },
  omega (arith, length-append v (r ∷ [])),
)

-- The number of all octets but the last is the number divided.
more_pos : (k n : ℕ) → 128 * 256 ^ k ≤ n → Has (suc k) (pos (n / 256)) → Has (suc (suc k)) (pos n)
more_pos k n high h =
    let v = h.0 in
    let is : IsInteger v (pos (n / 256)) = h.1 in
    let e = behind_more 0 v (n % 256) in
    let place : 256 ^ 0 ≤ 256 ^ k = further 0 k (omega arith) in
    more v (pos (n / 256)) (pos n) (n % 256) (suc k) is h.2 (omega arith)
    (shortest_more v (n % 256) is.shortest (λ a one. (
      λ zero_first. let f : number_of v ≡ 0 * 256 + a =
          ap number_of one in omega (arith, is.value.1),
      λ ones_first. absurd (let p : IsPositive (a ∷ []) = subst IsPositive one is.value.0 in omega arith),
    )))
    (positive_more v (n % 256 ∷ []) is.value.0, omega (arith, e, is.value.1))

more_neg : (k n : ℕ) → 128 * 256 ^ k ≤ n → Has (suc k) (negsuc (n / 256))
    → Has (suc (suc k)) (negsuc n)
more_neg k n high h =
    let v = h.0 in
    let is : IsInteger v (negsuc (n / 256)) = h.1 in
    let r : ℕ = 255 - n % 256 in
    let e = behind_more 0 v r in
    let place : 256 ^ 0 ≤ 256 ^ k = further 0 k (omega arith) in
    let long : length (v ++ r ∷ []) ≡ suc (length v) = omega (arith, length-append v (r ∷ [])) in
    more v (negsuc (n / 256)) (negsuc n) r (suc k) is h.2 (omega arith)
    (shortest_more v r is.shortest (λ a one. (
      λ zero_first. absurd (let p : IsNegative (a ∷ []) = subst IsNegative one is.value.0 in omega arith),
      λ ones_first.
          let f : number_of v ≡ 0 * 256 + a = ap number_of one in
          let l : length v ≡ 1 = ap length one in
          let w : 256 ^ length v ≡ 256 ^ 1 = ap (λ (z : ℕ). 256 ^ z) l in
          omega (arith, is.value.1),
    ))) (
      negative_more v (r ∷ []) is.value.0,
      omega (arith, e, is.value.1, ap (λ (z : ℕ). 256 ^ z) long, pow-succ' 256 (length v)),
    )

has_below : (k : ℕ) (x : ℤ) → steps_of x < 128 * 256 ^ k → Has (suc k) x
has_below zero (pos n) low = (
  n ∷ [],
  record {
    octets = single _ (omega arith);
    shortest = tt;
    value = (omega arith, omega arith);
  },
  omega arith,
)
has_below zero (negsuc n) low = (
  (255 - n) ∷ [],
  record {
    octets = single _ (omega arith);
    shortest = tt;
    value = (omega arith, omega arith);
  },
  omega arith,
)
has_below (suc k) (pos n) low =
    elim (cases_lt n (128 * 256 ^ k)) [
      | inl l ↦ let h = has_below k (pos n) l in (h.0, h.1, omega (arith, h.2))
      | inr l ↦ more_pos k n l (has_below k (pos (n / 256)) (omega (arith, pow-succ' 256 k)))
    ]
has_below (suc k) (negsuc n) low =
    elim (cases_lt n (128 * 256 ^ k)) [
      | inl l ↦ let h = has_below k (negsuc n) l in (h.0, h.1, omega (arith, h.2))
      | inr l ↦ more_neg k n l (has_below k (negsuc (n / 256)) (omega (arith, pow-succ' 256 k)))
    ]

enough : (n : ℕ) → n < 128 * 256 ^ n
enough zero = omega arith
enough (suc n) = omega (arith, enough n, pow-succ' 256 n)

-- The content octets of a number.
pub content : ℤ → List ℕ
content x = (has_below (steps_of x) x (enough (steps_of x))).0

pub content_is : (x : ℤ) → IsInteger (content x) x
unfolding content
content_is x = (has_below (steps_of x) x (enough (steps_of x))).1

-- Numbers that are near have few of them.
few_of : (k : ℕ) (x : ℤ) → steps_of x < 128 * 256 ^ k → length (content x) ≤ suc k
few_of k x low =
    let h = has_below k x low in
    omega (arith, ap length (one_integer x (content x) h.0 (content_is x) h.1), h.2)

-- Longer contents are of numbers that are further away.
pub further_away : (a b : List ℕ) (x y : ℤ) → IsInteger a x → IsInteger b y → length a < length b
    → steps_of x < steps_of y
further_away [] b x y s t h = absurd s.shortest
further_away (a ∷ v) b x y s t h =
    elim (cases_lt (steps_of x) (steps_of y)) [
      | inl l ↦ l
      | inr r ↦
          let low = near a v x s.octets s.value in
          absurd (omega (
            arith,
            few_of (length v) y (omega (arith, low)),
            ap length (one_integer y b (content y) t (content_is y)),
          ))
    ]

-- A number from -2^128 up and below 2^128 has at most seventeen octets.
pub few_octets : (x : ℤ) → steps_of x < 2 ^ 128 → length (content x) ≤ 17
few_octets x low = few_of 16 x (omega arith)
