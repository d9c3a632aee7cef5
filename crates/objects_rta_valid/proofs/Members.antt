-- Members of lists of places, by the test that computes them; what stands at places.
use Rattle.std.proofs.Common.{◌≡◌, ℕ, ◌<◌, Bool, true, false, nat_eq, List, length, Some, Contains, Any, refl, sym, subst, ◌∙◌}
use Rattle.std.specs.Cmp.{nat_eq_equiv}
use Rattle.std.proofs.lemmas.Bool.{both_ways, eqb-true}
use Rattle.std.proofs.lemmas.List.Folds.{Any-from_list_any}
use Rattle.std.proofs.lemmas.Map.Views.{list_any-from_Contains}
use Rattle.std.proofs.lemmas.Option.{slice_get_within}
use Rattle.std.proofs.Math.ListN.{get_or}
use Rattle.objects_rta_valid.specs.Paths.{At}
use Rattle.objects_rta_valid.specs.OnPaths.{has}

-- The test tells members, both ways.
pub has_from : (xs : List ℕ) (x : ℕ) → Contains xs x → has xs x ≡ true
has_from xs x c = list_any-from_Contains nat_eq_equiv x xs c

pub has_to : (xs : List ℕ) (x : ℕ) → has xs x ≡ true → Contains xs x
has_to xs x e =
    let a : Any (λ y. nat_eq x y ≡ true) xs = Any-from_list_any (nat_eq x) xs e in
    let same : a.1 ≡ x = sym (eqb-true x a.1 a.4) in
    (a.0, a.2, subst (λ (z : ℕ). get_or xs a.0 z ≡ z) same a.3)

pub has_not : (xs : List ℕ) (x : ℕ) → has xs x ≡ false → Contains xs x → ⊥
has_not xs x e c = both_ways (has xs x) e (has_from xs x c)

pub not_has : (xs : List ℕ) (x : ℕ) → (Contains xs x → ⊥) → has xs x ≡ false
not_has xs x n = go (has xs x) (λ e. n (has_to xs x e))
  where
    go : (b : Bool) → (b ≡ true → ⊥) → b ≡ false
    go true f = absurd (f refl)
    go false f = refl

-- One thing stands at a place, which is inside.
pub at_one : {X : Type 0} (xs : List X) (n : ℕ) (x y : X) → At xs n x → At xs n y → x ≡ y
at_one xs n x y a b = let e : Some x ≡ Some y = sym a ∙ b in cc

pub at_inside : {X : Type 0} (xs : List X) (n : ℕ) (x : X) → At xs n x → n < length xs
at_inside xs n x a = slice_get_within xs n x a
