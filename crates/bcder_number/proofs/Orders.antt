-- The order of numbers, by their content octets.
use Rattle.std.proofs.Common.{◌≡◌, ℕ, ◌+◌, ◌*◌, ◌^◌, ◌<◌, ◌≤◌, Bool, true, false, List, [], ◌∷◌, length, All, refl, sym, ap, ◌∙◌, subst, arith}
use Rattle.std.proofs.Math.Nat.{mul-le-mul_right}
use Rattle.std.proofs.lemmas.Int.{ints}
use Rattle.std.proofs.lemmas.Cmp.{ranked}
use Rattle.std.proofs.lemmas.List.Elements.{All-tail}
use Rattle.std.proofs.lemmas.Slice.Eq.{bytes_eq-Decides}
use Rattle.std.specs.Cmp.{int_cmp_is, signed_Decides}
use Rattle.std.specs.Cmp.Lexicographic.{slice_cmp, pointwise}
use Rattle.std.specs.Ordering.{MatchOrdering, nat_cmp, int_cmp, int_eq, ordering_then}
use Rattle.std.specs.Prelude.{ℤ, pos, negsuc, ◌<ℤ◌, nat_eq}
use Rattle.std.specs.declared.cmp.Ordering.{Ordering}
use Rattle.std.specs.declared.cmp.Ordering.TheVariants.{Less, Equal, Greater}
use Rattle.bcder_number.specs.bcder_tree.Integers.{number_behind}
use Rattle.bcder_number.specs.bcder_primitive.Values.{IsNegative}
use Rattle.bcder_values.proofs.of_bcder_tree.Digits.{number_low, number_high}
use Rattle.bcder_number.specs.Integers.{IsInteger}
use Rattle.bcder_number.specs.Contents.{single, one_integer, one_number, further_away}

-- Of two bools that are true together, each is the other.
both_true : (p q : Bool) → (p ≡ true → q ≡ true) → (q ≡ true → p ≡ true) → p ≡ q
both_true true q f g = sym (f refl)
both_true false true f g = g refl
both_true false false f g = refl

-- Octets are equal where the numbers are.
pub equal_numbers : (a b : List ℕ) (x y : ℤ) → IsInteger a x → IsInteger b y → pointwise nat_eq a b ≡ int_eq x y
equal_numbers a b x y s t =
    both_true (pointwise nat_eq a b) (int_eq x y)
    (λ e. (signed_Decides x y).1 (one_number a x y s (subst (λ (v : List ℕ). IsInteger v y) (sym ((bytes_eq-Decides a b).0 e)) t)))
    (λ e. (bytes_eq-Decides a b).1 (one_integer x a b s (subst (λ (z : ℤ). IsInteger b z) (sym ((signed_Decides x y).0 e)) t)))

abbrev Digits : ℕ → List ℕ → ℕ → List ℕ → Ordering → Type 0
Digits p v q w o = MatchOrdering o (number_behind p v < number_behind q w) (number_behind p v ≡ number_behind q w) (number_behind q w < number_behind p v)

-- What comes after smaller digits is smaller.
lower : (p q : ℕ) (v w : List ℕ) → length v ≡ length w → All (λ a. a < 256) v → p < q → number_behind p v < number_behind q w
lower p q v w long vs h =
    let m : (p + 1) * 256 ^ length v ≤ q * 256 ^ length v = mul-le-mul_right (256 ^ length v) (let k : p + 1 ≤ q = omega arith in k) in
    omega (arith, number_high p v vs, number_low q w, ap (λ (z : ℕ). q * 256 ^ z) long)

-- As many octets stand in the order of the numbers that they spell.
digits_at : (p a b : ℕ) (v w : List ℕ) → length v ≡ length w → All (λ a. a < 256) v → All (λ a. a < 256) w → ((q : ℕ) → Digits q v q w (slice_cmp nat_cmp v w))
    → (o : Ordering) → MatchOrdering o (a < b) (a ≡ b) (b < a) → Digits p (a ∷ v) p (b ∷ w) (ordering_then o (slice_cmp nat_cmp v w))
digits_at p a b v w few vs ws others Less h = lower (p * 256 + a) (p * 256 + b) v w few vs (omega arith)
digits_at p a b v w few vs ws others Equal h = subst (λ (z : ℕ). Digits (p * 256 + a) v (p * 256 + z) w (slice_cmp nat_cmp v w)) h (others (p * 256 + a))
digits_at p a b v w few vs ws others Greater h = lower (p * 256 + b) (p * 256 + a) w v (sym few) ws (omega arith)

digits_order : (p : ℕ) (v w : List ℕ) → length v ≡ length w → All (λ a. a < 256) v → All (λ a. a < 256) w → Digits p v p w (slice_cmp nat_cmp v w)
digits_order p [] [] long vs ws = refl
digits_order p [] (b ∷ w) long vs ws = absurd (omega arith)
digits_order p (a ∷ v) [] long vs ws = absurd (omega arith)
digits_order p (a ∷ v) (b ∷ w) long vs ws =
    let few : length v ≡ length w = omega arith in
    let first = All-tail (λ a. a < 256) a v vs in
    let second = All-tail (λ a. a < 256) b w ws in
    digits_at p a b v w few first second (λ q. digits_order q v w few first second) (nat_cmp a b) (ranked a b (nat_cmp a b) refl)

-- The order of two numbers.
abbrev Ranks : ℤ → ℤ → Ordering → Type 0
Ranks x y o = MatchOrdering o (x <ℤ y) (x ≡ y) (y <ℤ x)

same_long_pos : (a b : List ℕ) (n m : ℕ) (o : Ordering) → IsInteger a (pos n) → IsInteger b (pos m) → Digits 0 a 0 b o → Ranks (pos n) (pos m) o
same_long_pos a b n m Less s t h = omega (arith, ints, s.value.1, t.value.1)
same_long_pos a b n m Equal s t h = ap pos (sym s.value.1 ∙ h ∙ t.value.1)
same_long_pos a b n m Greater s t h = omega (arith, ints, s.value.1, t.value.1)

same_long_neg : (a b : List ℕ) (n m : ℕ) (o : Ordering) → IsInteger a (negsuc n) → IsInteger b (negsuc m) → length a ≡ length b → Digits 0 a 0 b o → Ranks (negsuc n) (negsuc m) o
same_long_neg a b n m Less s t long h = omega (arith, ints, s.value.1, t.value.1, ap (λ (z : ℕ). 256 ^ z) long)
same_long_neg a b n m Equal s t long h = ap negsuc (omega (arith, s.value.1, t.value.1, ap (λ (z : ℕ). 256 ^ z) long))
same_long_neg a b n m Greater s t long h = omega (arith, ints, s.value.1, t.value.1, ap (λ (z : ℕ). 256 ^ z) long)

-- Both from 0 up: the longer is greater.
ranks_pos : (a b : List ℕ) (n m : ℕ) (o : Ordering) → IsInteger a (pos n) → IsInteger b (pos m) → MatchOrdering o (length a < length b) (length a ≡ length b) (length b < length a) → Ranks (pos n) (pos m) (ordering_then o (slice_cmp nat_cmp a b))
ranks_pos a b n m Less s t h = let k : n < m = further_away a b (pos n) (pos m) s t h in omega (arith, ints)
ranks_pos a b n m Equal s t h = same_long_pos a b n m (slice_cmp nat_cmp a b) s t (digits_order 0 a b h s.octets t.octets)
ranks_pos a b n m Greater s t h = let k : m < n = further_away b a (pos m) (pos n) t s h in omega (arith, ints)

-- Both below 0: the longer is smaller.
ranks_neg : (a b : List ℕ) (n m : ℕ) (o : Ordering) → IsInteger a (negsuc n) → IsInteger b (negsuc m) → MatchOrdering o (length b < length a) (length b ≡ length a) (length a < length b) → Ranks (negsuc n) (negsuc m) (ordering_then o (slice_cmp nat_cmp a b))
ranks_neg a b n m Less s t h = let k : m < n = further_away b a (negsuc m) (negsuc n) t s h in omega (arith, ints)
ranks_neg a b n m Equal s t h = same_long_neg a b n m (slice_cmp nat_cmp a b) s t (sym h) (digits_order 0 a b (sym h) s.octets t.octets)
ranks_neg a b n m Greater s t h = let k : n < m = further_away a b (negsuc n) (negsuc m) s t h in omega (arith, ints)

-- A sign is clear or set.
clear_is : (a : List ℕ) (k : ℕ) → IsInteger a (negsuc k) → (IsNegative a → ⊥) → ⊥
clear_is a k s clear = clear s.value.0

set_is : (a : List ℕ) (n : ℕ) → IsInteger a (pos n) → IsNegative a → ⊥
set_is [] n s set = set
set_is (a ∷ v) n s set = let h : a < 128 = s.value.0 in let k : 128 ≤ a = set in omega arith

pub order_clear : (a b : List ℕ) (x y : ℤ) → (IsNegative a → ⊥) → (IsNegative b → ⊥) → IsInteger a x → IsInteger b y → ordering_then (nat_cmp (length a) (length b)) (slice_cmp nat_cmp a b) ≡ int_cmp x y
order_clear a b (pos n) (pos m) p q s t = int_cmp_is (pos n) (pos m) _ (ranks_pos a b n m (nat_cmp (length a) (length b)) s t (ranked (length a) (length b) _ refl))
order_clear a b (negsuc n) y p q s t = absurd (clear_is a n s p)
order_clear a b (pos n) (negsuc m) p q s t = absurd (clear_is b m t q)

pub order_set : (a b : List ℕ) (x y : ℤ) → IsNegative a → IsNegative b → IsInteger a x → IsInteger b y → ordering_then (nat_cmp (length b) (length a)) (slice_cmp nat_cmp a b) ≡ int_cmp x y
order_set a b (negsuc n) (negsuc m) p q s t = int_cmp_is (negsuc n) (negsuc m) _ (ranks_neg a b n m (nat_cmp (length b) (length a)) s t (ranked (length b) (length a) _ refl))
order_set a b (pos n) y p q s t = absurd (set_is a n s p)
order_set a b (negsuc n) (pos m) p q s t = absurd (set_is b m t q)

pub order_above : (a b : List ℕ) (x y : ℤ) → (IsNegative a → ⊥) → IsNegative b → IsInteger a x → IsInteger b y → Greater ≡ int_cmp x y
order_above a b (pos n) (negsuc m) p q s t = int_cmp_is (pos n) (negsuc m) Greater (omega (arith, ints))
order_above a b (negsuc n) y p q s t = absurd (clear_is a n s p)
order_above a b (pos n) (pos m) p q s t = absurd (set_is b m t q)

pub order_below : (a b : List ℕ) (x y : ℤ) → IsNegative a → (IsNegative b → ⊥) → IsInteger a x → IsInteger b y → Less ≡ int_cmp x y
order_below a b (negsuc n) (pos m) p q s t = int_cmp_is (negsuc n) (pos m) Less (omega (arith, ints))
order_below a b (pos n) y p q s t = absurd (set_is a n s p)
order_below a b (negsuc n) (negsuc m) p q s t = absurd (clear_is b m t q)

-- The sign is set where the number is below 0.
pub below_set : (a : List ℕ) (x : ℤ) → IsInteger a x → IsNegative a → x <ℤ pos 0
below_set a (pos n) s set = absurd (set_is a n s set)
below_set a (negsuc k) s set = omega (arith, ints)

pub set_below : (a : List ℕ) (x : ℤ) → IsInteger a x → x <ℤ pos 0 → IsNegative a
set_below a (pos n) s h = absurd (omega (arith, ints))
set_below a (negsuc k) s h = s.value.0

zero_content : IsInteger (0 ∷ []) (pos 0)
zero_content = record { octets = single 0 (omega arith); shortest = tt; value = (omega arith, refl) }

-- The octets of 0.
pub zero_is : (a : List ℕ) (x : ℤ) → IsInteger a x → a ≡ 0 ∷ [] → x ≡ pos 0
zero_is a x s e = one_number (0 ∷ []) x (pos 0) (subst (λ (v : List ℕ). IsInteger v x) e s) zero_content

pub is_zero : (a : List ℕ) (x : ℤ) → IsInteger a x → x ≡ pos 0 → a ≡ 0 ∷ []
is_zero a x s e = one_integer (pos 0) a (0 ∷ []) (subst (λ (z : ℤ). IsInteger a z) e s) zero_content
