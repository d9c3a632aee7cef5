-- Lists that are gathered path by path.
use Rattle.std.proofs.Common.{◌≡◌, ℕ, ◌+◌, zero, suc, List, [], ◌∷◌, ◌++◌, drop, Some, sym, ap, ◌∙◌, append_assoc}
use Rattle.std.specs.List.{flat_map, slice_get}
use Rattle.std.proofs.lemmas.Option.{same_Some}
use Rattle.std.proofs.Math.Numerals.{add-one}

-- What is left of the list, from a place on.
pub cut : {X : Type 0} (xs : List X) (i : ℕ) (x : X) → slice_get xs i ≡ Some x → drop i xs ≡ x ∷ drop (suc i) xs
cut [] i x e = absurd cc
cut {X} (y ∷ ys) zero x e = ap (λ (z : X). z ∷ ys) (same_Some y x e)
cut (y ∷ ys) (suc i) x e = cut ys i x e

pub flat_step : {X A : Type 0} (f : X → List A) (xs : List X) (i : ℕ) (x : X) (done whole : List A)
    → slice_get xs i ≡ Some x → done ++ flat_map f (drop i xs) ≡ whole → (done ++ f x) ++ flat_map f (drop (i + 1) xs) ≡ whole
flat_step {X} {A} f xs i x done whole e h =
    rw add-one (append_assoc done (f x) (flat_map f (drop (suc i) xs)) ∙ ap (λ (ys : List X). done ++ flat_map f ys) (sym (cut xs i x e)) ∙ h)
