-- Elements that pass a test, and after them the others.
use Rattle.std.proofs.Common.{◌≡◌, Bool, true, false, not, cond, List, [], ◌∷◌, ◌++◌, map, filter, refl, ap, ◌∙◌, append-nil}
use Rattle.std.proofs.lemmas.List.{map-append}
use Rattle.std.proofs.lemmas.List.Elements.{filter-append}

-- By what a function gives of the elements.
map_filter : {X Y : Type 0} (f : X → Y) (p : Y → Bool) (xs : List X) → map f (filter (λ x. p (f x)) xs) ≡ filter p (map f xs)
map_filter f p [] = refl
map_filter f p (x ∷ xs) =
    let rest = map_filter f p xs in
    elim (p (f x)) as (λ b. map f (cond b (x ∷ filter (λ x. p (f x)) xs) (filter (λ x. p (f x)) xs)) ≡ cond b (f x ∷ filter p (map f xs)) (filter p (map f xs))) [
      | true ↦ ap (λ z. f x ∷ z) rest
      | false ↦ rest
    ]

pub map_parts : {X Y : Type 0} (f : X → Y) (p : Y → Bool) (xs : List X) → map f (filter (λ x. p (f x)) xs ++ filter (λ x. not (p (f x))) xs) ≡ filter p (map f xs) ++ filter (λ y. not (p y)) (map f xs)
map_parts f p xs =
    map-append f (filter (λ x. p (f x)) xs) (filter (λ x. not (p (f x))) xs)
    ∙ ap (λ z. z ++ map f (filter (λ x. not (p (f x))) xs)) (map_filter f p xs)
    ∙ ap (λ z. filter p (map f xs) ++ z) (map_filter f (λ y. not (p y)) xs)

-- Twice is once.
module _ {X : Type 0} (h : X → Bool) where
  passing_twice : (xs : List X) → filter h (filter h xs) ≡ filter h xs
  passing_twice [] = refl
  passing_twice (x ∷ xs) =
      let rest = passing_twice xs in
      let P : Bool → Type 0 = λ b. h x ≡ b → filter h (cond b (x ∷ filter h xs) (filter h xs)) ≡ cond b (x ∷ filter h xs) (filter h xs) in
      (elim (h x) as P [
        | true ↦ λ e. ap (λ b. cond b (x ∷ filter h (filter h xs)) (filter h (filter h xs))) e ∙ ap (λ (z : List X). x ∷ z) rest
        | false ↦ λ e. rest
      ]) refl

  others_twice : (xs : List X) → filter (λ x. not (h x)) (filter (λ x. not (h x)) xs) ≡ filter (λ x. not (h x)) xs
  others_twice [] = refl
  others_twice (x ∷ xs) =
      let rest = others_twice xs in
      let more : List X = filter (λ x. not (h x)) xs in
      let P : Bool → Type 0 = λ b. h x ≡ b → filter (λ x. not (h x)) (cond (not b) (x ∷ more) more) ≡ cond (not b) (x ∷ more) more in
      (elim (h x) as P [
        | true ↦ λ e. rest
        | false ↦ λ e. ap (λ b. cond (not b) (x ∷ filter (λ x. not (h x)) more) (filter (λ x. not (h x)) more)) e ∙ ap (λ (z : List X). x ∷ z) rest
      ]) refl

  none_passing : (xs : List X) → filter h (filter (λ x. not (h x)) xs) ≡ []
  none_passing [] = refl
  none_passing (x ∷ xs) =
      let rest = none_passing xs in
      let more : List X = filter (λ x. not (h x)) xs in
      let P : Bool → Type 0 = λ b. h x ≡ b → filter h (cond (not b) (x ∷ more) more) ≡ [] in
      (elim (h x) as P [
        | true ↦ λ e. rest
        | false ↦ λ e. ap (λ b. cond b (x ∷ filter h more) (filter h more)) e ∙ rest
      ]) refl

  none_other : (xs : List X) → filter (λ x. not (h x)) (filter h xs) ≡ []
  none_other [] = refl
  none_other (x ∷ xs) =
      let rest = none_other xs in
      let more : List X = filter h xs in
      let P : Bool → Type 0 = λ b. h x ≡ b → filter (λ x. not (h x)) (cond b (x ∷ more) more) ≡ [] in
      (elim (h x) as P [
        | true ↦ λ e. ap (λ b. cond (not b) (x ∷ filter (λ x. not (h x)) more) (filter (λ x. not (h x)) more)) e ∙ rest
        | false ↦ λ e. rest
      ]) refl

  pub parted_twice : (xs : List X) → filter h (filter h xs ++ filter (λ x. not (h x)) xs) ++ filter (λ x. not (h x)) (filter h xs ++ filter (λ x. not (h x)) xs) ≡ filter h xs ++ filter (λ x. not (h x)) xs
  parted_twice xs =
      let first : List X = filter h xs in
      let second : List X = filter (λ x. not (h x)) xs in
      let front : filter h (first ++ second) ≡ first = filter-append h first second ∙ ap (λ (z : List X). z ++ filter h second) (passing_twice xs) ∙ ap (λ (z : List X). first ++ z) (none_passing xs) ∙ append-nil first in
      let back : filter (λ x. not (h x)) (first ++ second) ≡ second = filter-append (λ x. not (h x)) first second ∙ ap (λ (z : List X). z ++ filter (λ x. not (h x)) second) (none_other xs) ∙ others_twice xs in
      ap (λ (z : List X). z ++ filter (λ x. not (h x)) (first ++ second)) front ∙ ap (λ (z : List X). first ++ z) back
