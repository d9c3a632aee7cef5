-- Two halves that are in order: the others of the first change places with those that pass of the second.
use Rattle.std.proofs.Common.{◌≡◌, ℕ, suc, ◌+◌, ◌<◌, ◌-◌, Bool, true, false, not, cond, List, [], ◌∷◌, ◌++◌, filter, length, length-append, take, drop, refl, sym, ap, ◌∙◌, append_assoc, arith}
use lib.Seq.{take_at, drop_at}
use borrow.Rule.Slice.PartMut.{mid_of, put_mid}
use Rattle.std.proofs.lemmas.List.Elements.{filter-append}

-- Four parts, of which the second and the third change places.
swapped : {X : Type 0} (p q r s all ys : List X) (i j k : ℕ) → all ≡ p ++ ((q ++ r) ++ s) → length p ≡ i → length q ≡ j → length (q ++ r) ≡ k
    → ys ≡ drop j (mid_of i k all) ++ take j (mid_of i k all)
    → put_mid i k all ys ≡ p ++ ((r ++ q) ++ s)
swapped {X} p q r s all ys i j k a f g l e =
    let behind : drop i all ≡ (q ++ r) ++ s = ap (λ (z : List X). drop i z) a ∙ drop_at p ((q ++ r) ++ s) i f in
    let middle : mid_of i k all ≡ q ++ r = ap (λ (z : List X). take k z) behind ∙ take_at (q ++ r) s k l in
    let after : drop k (drop i all) ≡ s = ap (λ (z : List X). drop k z) behind ∙ drop_at (q ++ r) s k l in
    let before : take i all ≡ p = ap (λ (z : List X). take i z) a ∙ take_at p ((q ++ r) ++ s) i f in
    let new : ys ≡ r ++ q = e ∙ ap (λ (m : List X). drop j m ++ take j m) middle
    ∙ ap (λ (z : List X). z ++ take j (q ++ r)) (drop_at q r j g) ∙ ap (λ (z : List X). r ++ z) (take_at q r j g) in
    ap (λ (z : List X). z ++ (ys ++ drop k (drop i all))) before ∙ ap (λ (z : List X). p ++ (z ++ drop k (drop i all))) new
    ∙ ap (λ (z : List X). p ++ ((r ++ q) ++ z)) after

-- The parts, as they are put together.
parts_of : {X : Type 0} (p q r s : List X) → (p ++ q) ++ (r ++ s) ≡ p ++ ((q ++ r) ++ s)
parts_of {X} p q r s = append_assoc p q (r ++ s) ∙ ap (λ (z : List X). p ++ z) (sym (append_assoc q r s))

parts_changed : {X : Type 0} (p q r s : List X) → p ++ ((r ++ q) ++ s) ≡ (p ++ r) ++ (q ++ s)
parts_changed {X} p q r s = ap (λ (z : List X). p ++ z) (append_assoc r q s) ∙ sym (append_assoc p r (q ++ s))

module _ {X : Type 0} (h : X → Bool) where
  abbrev pub passing : List X → List X
  passing xs = filter h xs

  abbrev pub others : List X → List X
  others xs = filter (λ x. not (h x)) xs

  -- Each element passes, or doesn't.
  all_parted : (xs : List X) → length (passing xs) + length (others xs) ≡ length xs
  all_parted [] = refl
  all_parted (x ∷ xs) =
      let rest = all_parted xs in
      elim (h x) as (λ b. length (cond b (x ∷ passing xs) (passing xs)) + length (cond (not b) (x ∷ others xs) (others xs)) ≡ suc (length xs)) [
        | true ↦ omega (arith, rest)
        | false ↦ omega (arith, rest)
      ]

  pub halves_meet : (front back a b all ys : List X) (here there half : ℕ) → length front ≡ half
      → a ≡ passing front ++ others front → b ≡ passing back ++ others back → here ≡ length (passing front) → there ≡ length (passing back) → all ≡ a ++ b
      → ys ≡ drop (half - here) (mid_of here (half + there - here) all) ++ take (half - here) (mid_of here (half + there - here) all)
      → put_mid here (half + there - here) all ys ≡ passing (front ++ back) ++ others (front ++ back)
  halves_meet front back a b all ys here there half long f g m n w e =
      let p = passing front in
      let q = others front in
      let r = passing back in
      let s = others back in
      let both = all_parted front in
      let joined = length-append q r in
      let whole : all ≡ p ++ ((q ++ r) ++ s) = w ∙ ap (λ (z : List X). z ++ b) f ∙ ap (λ (z : List X). (p ++ q) ++ z) g ∙ parts_of p q r s in
      swapped p q r s all ys here (half - here) (half + there - here) whole (sym m) (omega (arith, both, m, long)) (omega (arith, both, joined, m, n, long)) e
      ∙ parts_changed p q r s
      ∙ ap (λ (z : List X). z ++ (q ++ s)) (sym (filter-append h front back)) ∙ ap (λ (z : List X). passing (front ++ back) ++ z) (sym (filter-append (λ x. not (h x)) front back))

  -- One element, or none.
  pub one_parted : (xs : List X) → length xs < 2 → xs ≡ passing xs ++ others xs
  one_parted [] l = refl
  one_parted (x ∷ []) l =
      elim (h x) as (λ b. x ∷ [] ≡ cond b (x ∷ []) [] ++ cond (not b) (x ∷ []) []) [
        | true ↦ refl
        | false ↦ refl
      ]
  one_parted (x ∷ y ∷ xs) l = absurd (omega (arith, l))
