-- Tests in parts: the first that fails of a part is the first of the whole, where those of the parts before it are passed.
use Rattle.std.proofs.Common.{List, [], ◌∷◌, ◌++◌, map, flat_map, refl, sym, ap, ◌∙◌, append_assoc}
use Rattle.std.proofs.lemmas.List.{map-append}
use Rattle.rpki_rules.specs.certs_basics.Lists.{Each, FirstFailing}
use Rattle.rpki_rules.proofs.Firsts.{each_join, map_each}

-- The first of all.
pub first_here : {X : Type 0} (P : X → Type 0) (x : X) (xs : List X) → (P x → ⊥) → FirstFailing P (x ∷ xs) x
first_here P x xs n = record { front = []; behind = xs; whole = refl; passed = tt; fails = n }

-- In the first part.
pub first_in_front : {X : Type 0} (P : X → Type 0) (xs ys : List X) (x : X) → FirstFailing P xs x → FirstFailing P (xs ++ ys) x
first_in_front {X} P xs ys x f = record {
  front = f.front;
  behind = f.behind ++ ys;
  whole = ap (λ (zs : List X). zs ++ ys) f.whole ∙ append_assoc f.front (x ∷ f.behind) ys;
  passed = f.passed;
  fails = f.fails;
}

-- Behind a part that is passed.
pub first_behind : {X : Type 0} (P : X → Type 0) (xs ys : List X) (x : X) → Each P xs → FirstFailing P ys x → FirstFailing P (xs ++ ys) x
first_behind {X} P xs ys x all f = record {
  front = xs ++ f.front;
  behind = f.behind;
  whole = ap (λ (zs : List X). xs ++ zs) f.whole ∙ sym (append_assoc xs f.front (x ∷ f.behind));
  passed = each_join P xs f.front all f.passed;
  fails = f.fails;
}

-- Of tests that are told in other words.
pub first_map : {X Y : Type 0} (g : X → Y) (P : Y → Type 0) (xs : List X) (x : X) → FirstFailing (λ (z : X). P (g z)) xs x → FirstFailing P (map g xs) (g x)
first_map {X} {Y} g P xs x f = record {
  front = map g f.front;
  behind = map g f.behind;
  whole = ap (map g) f.whole ∙ map-append g f.front (x ∷ f.behind);
  passed = map_each g P f.front f.passed;
  fails = f.fails;
}

-- Of several tests of each thing of a list: one of the first thing of which one fails.
pub first_flat : {X Y : Type 0} (g : X → List Y) (P : Y → Type 0) (front : List X) (x : X) (behind : List X) (y : Y)
    → Each (λ (z : X). Each P (g z)) front → FirstFailing P (g x) y → FirstFailing P (flat_map g (front ++ x ∷ behind)) y
first_flat g P [] x behind y all f = first_in_front P (g x) (flat_map g behind) y f
first_flat g P (z ∷ front) x behind y all f =
    first_behind P (g z) (flat_map g (front ++ x ∷ behind)) y all.0 (first_flat g P front x behind y all.1 f)
