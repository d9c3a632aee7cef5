-- What stands at a place.
use Rattle.std.proofs.Common.{◌≡◌, ℕ, Bool, true, false, List, Option, Some, None, eqb, inl, inr, refl, sym, ◌∙◌, subst}
use Rattle.std.specs.Prelude.{◌↔◌, IsTrue}
use Rattle.std.specs.List.{slice_get}
use Rattle.std.proofs.lemmas.Bool.Decides.{eqb_tells}
use Rattle.std.proofs.lemmas.Option.{same_Some}
use Rattle.objects_rta_valid.specs.Places.{Stands}

pub stands_told : {X : Type 0} (P : X → Type 0) (xs : List X) (place : ℕ) (x : X) (r : Bool) → slice_get xs place ≡ Some x → (IsTrue r ↔ P x) → (IsTrue r ↔ Stands xs place P)
stands_told P xs place x r e h = ((λ t. record { one = x; at = e; is = h.0 t }), (λ s. h.1 (subst P (same_Some s.one x (sym s.at ∙ e)) s.is)))

pub none_some : {X : Type 0} (o : Option X) (x : X) → o ≡ None → o ≡ Some x → ⊥
none_some o x e f = cc

pub none_stands : {X : Type 0} (P : X → Type 0) (xs : List X) (place : ℕ) → slice_get xs place ≡ None → Stands xs place P → ⊥
none_stands P xs place e s = none_some (slice_get xs place) s.one e s.at

pub not_told : {P : Type 0} → (P → ⊥) → (IsTrue false ↔ P)
not_told none = ((λ t. let wrong : false ≡ true = t in absurd cc), (λ p. absurd (none p)))

pub always_told : {P : Type 0} → P → (IsTrue true ↔ P)
always_told p = ((λ t. p), (λ q. refl))

-- What a test that answers no says.
pub told_not : {P : Type 0} (b : Bool) → (IsTrue b ↔ P) → b ≡ false → P → ⊥
told_not b h e p = let yes : b ≡ true = h.1 p in absurd cc

pub true_not : {P : Type 0} (b : Bool) → (IsTrue b ↔ P) → (b ≡ true → ⊥) → P → ⊥
true_not b h n p = n (h.1 p)

-- What a list says that is empty, or isn't.
pub empty_told : {W : Type 0} (n : ℕ) (b : Bool) → b ≡ eqb n 0 → (n ≡ 0 → W) × (W → n ≡ 0) → (IsTrue b ↔ W)
empty_told n b e h = elim (eqb_tells n 0) [
  | inl y ↦ ((λ t. h.0 y.1), (λ w. e ∙ y.0))
  | inr o ↦ ((λ t. let wrong : true ≡ false = sym t ∙ e ∙ o.0 in absurd cc), (λ w. absurd (o.1 (h.1 w))))
]
