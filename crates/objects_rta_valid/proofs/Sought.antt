-- What is sought along the places of a key, from the last one down.
use Rattle.std.proofs.Common.{◌≡◌, ℕ, ◌<◌, ◌≤◌, suc, List, length, map, get_or, Option, Some, None, inl, inr, refl, sym, ap, subst, ◌∙◌, arith}
use Rattle.std.specs.Prelude.{slice_get}
use Rattle.std.specs.Option.{option_map}
use Rattle.std.proofs.lemmas.Bool.{cases_eq, cases_lt}
use Rattle.std.proofs.lemmas.List.{length-map}
use Rattle.std.proofs.lemmas.Option.{same_Some, slice_get-map, slice_get_within}
use Rattle.objects_rta_valid.specs.Keyed.{IsKeyed, IsLast, KeyAt, last_place}
use Rattle.objects_rta_valid.specs.declared.keyed.KeyPlaces.{KeyPlaces}

-- Not behind the place that is looked at next.
abbrev pub IsUpTo : Option ℕ → ℕ → Type 0
IsUpTo None place = ⊥
IsUpTo (Some next) place = place ≤ next

-- The key stands at the place that is looked at next.
abbrev pub IsNext : List (List ℕ) → List ℕ → Option ℕ → Type 0
IsNext keys key None = Unit {0}
IsNext keys key (Some next) = KeyAt keys key next

-- How many places are left, at most.
abbrev pub reach : Option ℕ → ℕ
reach None = 0
reach (Some next) = suc next

-- What P holds of isn't behind the place that is looked at next.
abbrev pub LeftTo : {X : Type 0} → (X → Type 0) → List X → Option ℕ → Type 0
LeftTo {X} P xs next = (place : ℕ) (x : X) → slice_get xs place ≡ Some x → P x → IsUpTo next place

up_to : (keys : List (List ℕ)) (key : List ℕ) (bound : ℕ) (o : Option ℕ) (place : ℕ) → IsLast keys key bound o → place < bound → KeyAt keys key place → IsUpTo o place
up_to keys key bound None place h l at = h place l at
up_to keys key bound (Some last) place h l at = elim (cases_lt last place) [
  | inl above ↦ absurd (h.2 place above l at)
  | inr le ↦ le
]

pub next_of : (keys : List (List ℕ)) (key : List ℕ) (bound : ℕ) (o : Option ℕ) → IsLast keys key bound o → IsNext keys key o
next_of keys key bound None h = tt
next_of keys key bound (Some last) h = h.1

pub falls_to : (keys : List (List ℕ)) (key : List ℕ) (bound : ℕ) (o : Option ℕ) → IsLast keys key bound o → reach o ≤ bound
falls_to keys key bound None h = omega arith
falls_to keys key bound (Some last) h = let l : last < bound = h.0 in omega arith

-- A key stands where what has it does.
pub key_at : {X : Type 0} (f : X → List ℕ) (xs : List X) (place : ℕ) (x : X) (key : List ℕ) → slice_get xs place ≡ Some x → f x ≡ key → KeyAt (map f xs) key place
key_at {X} f xs place x key at e = slice_get-map f xs place ∙ ap (λ (o : Option X). option_map f o) at ∙ ap (λ (k : List ℕ). Some k) e

pub key_here : {X : Type 0} (f : X → List ℕ) (xs : List X) (place : ℕ) (x : X) (key : List ℕ) → KeyAt (map f xs) key place → slice_get xs place ≡ Some x → f x ≡ key
key_here {X} f xs place x key here at = same_Some (f x) key (sym (slice_get-map f xs place ∙ ap (λ (o : Option X). option_map f o) at) ∙ here)

pub some_here : {X : Type 0} (f : X → List ℕ) (xs : List X) (place : ℕ) (key : List ℕ) → KeyAt (map f xs) key place → (x : X) × (slice_get xs place ≡ Some x)
some_here {X} f xs place key here = go (slice_get xs place) refl
  where
    none : (o : Option X) → slice_get xs place ≡ o → o ≡ None → ⊥
    none o e n = let both : None ≡ Some key = sym (slice_get-map f xs place ∙ ap (λ (p : Option X). option_map f p) (e ∙ n)) ∙ here in cc

    go : (o : Option X) → slice_get xs place ≡ o → (x : X) × (slice_get xs place ≡ Some x)
    go None e = absurd (none None e refl)
    go (Some x) e = (x, e)

module _ {X : Type 0} (f : X → List ℕ) (P : X → Type 0) (xs : List X) (key : List ℕ) (table : KeyPlaces) (keyed : IsKeyed (map f xs) table) where
  pub left_first : ((x : X) → P x → f x ≡ key) → LeftTo P xs (last_place table key)
  left_first only place x at p =
      let size = length-map xs f in
      let l : place < length xs = slice_get_within xs place x at in
      up_to (map f xs) key (length (map f xs)) (last_place table key) place (keyed.last key) (omega arith) (key_at f xs place x key at (only x p))

  pub next_first : IsNext (map f xs) key (last_place table key)
  next_first = next_of (map f xs) key (length (map f xs)) (last_place table key) (keyed.last key)

  last_before : (n : ℕ) → KeyAt (map f xs) key n → IsLast (map f xs) key n (get_or table.before.items n None)
  last_before n here = keyed.before n key (slice_get_within (map f xs) n key here) here

  pub left_next : ((x : X) → P x → f x ≡ key) → (n : ℕ) → KeyAt (map f xs) key n → ((x : X) → slice_get xs n ≡ Some x → P x → ⊥) → LeftTo P xs (Some n) → LeftTo P xs (get_or table.before.items n None)
  left_next only n here none left place x at p =
      let l : place ≤ n = left place x at p in
      elim (cases_eq place n) [
        | inl e ↦ absurd (none x (subst (λ (k : ℕ). slice_get xs k ≡ Some x) e at) p)
        | inr ne ↦ up_to (map f xs) key n (get_or table.before.items n None) place (last_before n here) (omega arith) (key_at f xs place x key at (only x p))
      ]

  pub next_next : (n : ℕ) → KeyAt (map f xs) key n → IsNext (map f xs) key (get_or table.before.items n None)
  next_next n here = next_of (map f xs) key n (get_or table.before.items n None) (last_before n here)

  pub falls_next : (n : ℕ) → KeyAt (map f xs) key n → reach (get_or table.before.items n None) < reach (Some n)
  falls_next n here = let h = falls_to (map f xs) key n (get_or table.before.items n None) (last_before n here) in omega arith

  pub none_at_all : last_place table key ≡ None → (place : ℕ) (x : X) → slice_get xs place ≡ Some x → f x ≡ key → ⊥
  none_at_all e place x at same =
      let size = length-map xs f in
      let l : place < length xs = slice_get_within xs place x at in
      subst (λ (o : Option ℕ). IsLast (map f xs) key (length (map f xs)) o) e (keyed.last key) place (omega arith) (key_at f xs place x key at same)

  pub last_here : (n : ℕ) → last_place table key ≡ Some n → KeyAt (map f xs) key n
  last_here n e = (subst (λ (o : Option ℕ). IsLast (map f xs) key (length (map f xs)) o) e (keyed.last key)).1

-- A place of a list that has the key, where the table has one; and the other way round.
pub place_told : (keys : List (List ℕ)) (key : List ℕ) (table : KeyPlaces) (n : ℕ) → IsKeyed keys table → last_place table key ≡ Some n → KeyAt keys key n
place_told keys key table n keyed e = (subst (λ (o : Option ℕ). IsLast keys key (length keys) o) e (keyed.last key)).1

pub told_place : (keys : List (List ℕ)) (key : List ℕ) (table : KeyPlaces) (place : ℕ) → IsKeyed keys table → KeyAt keys key place → (n : ℕ) × (last_place table key ≡ Some n)
told_place keys key table place keyed at = go (last_place table key) refl
  where
    go : (o : Option ℕ) → last_place table key ≡ o → (n : ℕ) × (last_place table key ≡ Some n)
    go None e = absurd (subst (λ (o : Option ℕ). IsLast keys key (length keys) o) e (keyed.last key) place (slice_get_within keys place key at) at)
    go (Some n) e = (n, e)
