-- The numbers that octets spell, and how many octets a number takes (X.690 8.3).
use Rattle.std.proofs.Common.{◌≡◌, ℕ, suc, ◌+◌, ◌-◌, get_or, take, drop, subst, ◌-ℤ◌, ◌*◌, ◌^◌, ◌<◌, ◌≤◌, List, [], ◌∷◌, length, sym, ap, arith, All, add-one, inl, inr}
use Rattle.std.proofs.Math.Nat.{pow-succ', mul-le-mul_right}
use Rattle.std.proofs.lemmas.Bool.{cases_lt}
use Rattle.std.proofs.lemmas.Int.{ints, to_z_pos}
use mir.Val.{Fits, to_z, of_z}
use mir.Syntax.{w8, w128}
use Rattle.bcder_primitive.proofs.of_bcder_tree.Digits.{further, number_high, number_low}
use Rattle.bcder_primitive.proofs.of_bcder_tree.Slices.{rest_is}
use Rattle.std.proofs.lemmas.List.Elements.{All-head, All-tail, All-from_get_or}
use Rattle.std.specs.Prelude.{ℤ, pos, negsuc}
use Rattle.bcder_primitive.specs.bcder_tree.Integers.{number_behind, number_of, IsShortest, IsPositive}
use Rattle.bcder_primitive.specs.Values.{IsUnsigned, IsSigned, IsNegative}

-- One octet more.
pub more_octets : (i : ℕ) → 256 ^ (i + 1) ≡ 256 * 256 ^ i
more_octets i = rw add-one (pow-succ' 256 i)

-- Below so many octets there is room for one more, up to sixteen.
pub room : (i n : ℕ) → i < 16 → n < 256 ^ i → n * 256 + 255 < 2 ^ 128
room i n h low = omega (arith, further i 15 (omega arith))

-- A first octet that isn't zero has at most fifteen after it, below 2^128.
small_few : (a : ℕ) (v : List ℕ) → 1 ≤ a → number_of (a ∷ v) < 2 ^ 128 → length v ≤ 15
small_few a v h low =
    elim (cases_lt (length v) 16) [
      | inl l ↦ omega arith
      | inr l ↦
          let p : 1 * 256 ^ length v ≤ a * 256 ^ length v = mul-le-mul_right (256 ^ length v) h in
          absurd (omega (arith, number_low (0 * 256 + a) v, further 16 (length v) l))
    ]

-- After a zero there are at most sixteen octets.
pub few_zero : (a : ℕ) (v : List ℕ) → a ≡ 0 → IsShortest (a ∷ v) → number_of (a ∷ v) < 2 ^ 128 → length v ≤ 16
few_zero a [] e s low = omega arith
few_zero a (b ∷ v) e s low =
    let same : number_of (a ∷ b ∷ v) ≡ number_of (b ∷ v) = ap (λ (z : ℕ). number_behind ((0 * 256 + z) * 256 + b) v) e in
    omega (arith, small_few b v (omega (arith, s.0 e)) (omega (arith, same)))

-- With no zero in front there are at most sixteen octets.
pub few_others : (a : ℕ) (v : List ℕ) → (a ≡ 0 → ⊥) → number_of (a ∷ v) < 2 ^ 128 → length (a ∷ v) ≤ 16
few_others a v r low = omega (arith, small_few a v (omega arith) low)

-- A number below 2^128 takes at most seventeen octets.
pub few_unsigned : {bound : ℕ} (v : List ℕ) (x : ℕ) → bound ≤ 2 ^ 128 → IsUnsigned bound v x → length v ≤ 17
few_unsigned [] x h u = omega arith
few_unsigned (a ∷ v) x h u =
    elim (cases_lt 0 a) [
      | inl p ↦ omega (arith, small_few a v p (omega (arith, u.value, u.below)))
      | inr p ↦ omega (arith, few_zero a v (omega arith) u.shortest (omega (arith, u.value, u.below)))
    ]

-- Of two octets in front and sixteen or more in all, shortest from 0 up, the number is at least 2^127.
far : (c : ℕ) (v : List ℕ) → 128 ≤ c → 15 ≤ length v → 2 ^ 127 ≤ number_behind c v
far c v h l =
    let p : 128 * 256 ^ length v ≤ c * 256 ^ length v = mul-le-mul_right (256 ^ length v) h in
    omega (arith, number_low c v, further 15 (length v) l)

-- And below 0 it is that far from the greatest of as many octets.
far_below : (c k : ℕ) (v : List ℕ) → c + 1 ≤ 65408 → 15 ≤ length v → All (λ a. a < 256) v → number_behind c v + k + 1 ≡ 256 ^ suc (suc (length v)) → 2 ^ 127 ≤ k
far_below c k v h l all e =
    let p : (c + 1) * 256 ^ length v ≤ 65408 * 256 ^ length v = mul-le-mul_right (256 ^ length v) h in
    omega (arith, number_high c v all, further 15 (length v) l, pow-succ' 256 (suc (length v)), pow-succ' 256 (length v))

-- A number from -2^127 up and below 2^127 takes at most sixteen octets.
pub few_signed : {bound : ℕ} (v : List ℕ) (x : ℤ) → bound ≤ 2 ^ 127 → IsSigned bound v x → length v ≤ 16
few_signed [] x h s = omega arith
few_signed (a ∷ []) x h s = omega arith
few_signed (a ∷ b ∷ v) (pos n) h s =
    elim (cases_lt (length v) 15) [
      | inl l ↦ omega arith
      | inr l ↦ absurd (omega (arith, far ((0 * 256 + a) * 256 + b) v (grind (arith, s.shortest.0)) l, s.value.1, s.within))
    ]
few_signed (a ∷ b ∷ v) (negsuc k) h s =
    elim (cases_lt (length v) 15) [
      | inl l ↦ omega arith
      | inr l ↦
          let first : a < 256 = All-head (λ a. a < 256) a (b ∷ v) s.octets in
          let others : All (λ a. a < 256) (b ∷ v) = All-tail (λ a. a < 256) a (b ∷ v) s.octets in
          let second : b < 256 = All-head (λ a. a < 256) b v others in
          let c : (0 * 256 + a) * 256 + b + 1 ≤ 65408 = grind (arith, s.shortest.1) in
          absurd (omega (arith, far_below ((0 * 256 + a) * 256 + b) k v c l (All-tail (λ a. a < 256) b v others) s.value.1, s.within))
    ]

-- After the first octet of a slice, a zero, there are at most sixteen octets.
pub few_behind : (s : List ℕ) → 1 ≤ length s → get_or s 0 0 ≡ 0 → IsShortest s → number_of s < 2 ^ 128 → length (take (length s - 1) (drop 1 s)) ≤ 16
few_behind [] there e s low = absurd s
few_behind (a ∷ v) there e s low = omega (arith, ap length (rest_is 1 (a ∷ v)), few_zero a v e s low)

pub few_whole : (s : List ℕ) → (get_or s 0 0 ≡ 0 → ⊥) → number_of s < 2 ^ 128 → length s ≤ 16
few_whole [] r low = omega arith
few_whole (a ∷ v) r low = few_others a v r low

positive_first : (s : List ℕ) → 1 ≤ length s → get_or s 0 0 < 128 → IsPositive s
positive_first [] there h = omega arith
positive_first (a ∷ v) there h = h

negative_first : (s : List ℕ) → 1 ≤ length s → 128 ≤ get_or s 0 0 → IsNegative s
negative_first [] there h = omega arith
negative_first (a ∷ v) there h = h

-- The number of octets whose sign is clear, as a signed one.
pub signed_positive : {s : List ℕ} {n max : ℕ} → All (λ a. a < 256) s → IsShortest s → 1 ≤ length s → get_or s 0 0 < 128 → n ≡ number_of s → n ≤ max → max < 2 ^ 127 → IsSigned (max + 1) s (to_z w128 n)
signed_positive {s} {n} {max} all shortest there first e within bound =
    let small : n < 2 ^ 127 = omega arith in
    let near : n < max + 1 = omega arith in
    let is : to_z w128 n ≡ pos n = to_z_pos w128 n small in
    subst (λ (x : ℤ). IsSigned (max + 1) s x) (sym is) (record { octets = all; shortest = shortest; value = (positive_first s there first, sym e); within = near })

-- And of octets whose sign is set.
pub signed_negative : {s : List ℕ} {k max : ℕ} → All (λ a. a < 256) s → IsShortest s → 1 ≤ length s → 128 ≤ get_or s 0 0 → number_of s + k + 1 ≡ 256 ^ length s → k ≤ max → max < 2 ^ 127 → IsSigned (max + 1) s (to_z w128 (of_z w128 (negsuc 0 -ℤ to_z w128 k)))
signed_negative {s} {k} {max} all shortest there first e within bound =
    let near : k < max + 1 = omega arith in
    let is : to_z w128 (of_z w128 (negsuc 0 -ℤ to_z w128 k)) ≡ negsuc k = omega (arith, ints) in
    subst (λ (x : ℤ). IsSigned (max + 1) s x) (sym is) (record { octets = all; shortest = shortest; value = (negative_first s there first, e); within = near })

-- What a slice has are octets.
pub all_octets : (s : List ℕ) → ((i : ℕ) → Fits w8 (get_or s i 0)) → All (λ a. a < 256) s
all_octets s fits = All-from_get_or (λ a. a < 256) s 0 (λ i h. let f = fits i in omega (arith, f))
