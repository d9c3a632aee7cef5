-- Sets of providers: without any, and with AS 0 alone.
use Rattle.std.proofs.Common.{◌≡◌, ℕ, ◌↔◌, ◌==◌, IsTrue, List, [], ◌∷◌, inl, inr, refl, sym, ap, ◌∙◌}
use Rattle.std.specs.Prelude.{length}
use Rattle.std.proofs.lemmas.Bool.{eqb-true}
use Rattle.std.proofs.lemmas.Bool.Decides.{eqb_tells}
use Rattle.objects.specs.objects_payload.Aspas.{Aspa}
use Rattle.objects.specs.resources_asn.Listed.{InList, IsListOf}
use Rattle.objects.specs.Providers.{IsZeroAlone}

-- The set of no AS numbers is the empty list.
none_listed : (providers : List ℕ) → IsListOf (λ n. ⊥) providers → providers ≡ []
none_listed [] l = refl
none_listed (p ∷ others) l = absurd ((l.same p).0 (inl refl))

pub no_providers : (customer : ℕ) (providers : List ℕ) → IsListOf (λ n. ⊥) providers → ◌≡◌ {A = Aspa} (record { customer = customer; providers = providers }) (record { customer = customer; providers = [] })
no_providers customer providers l = λ i. record { customer = customer; providers = none_listed providers l i }

-- AS 0 is there: it is alone just where one is there.
one_alone : (providers : List ℕ) → length providers ≡ 1 → IsZeroAlone providers
one_alone [] e i = absurd i
one_alone (p ∷ []) e (inl z) = ap (λ (n : ℕ). n ∷ []) (sym z)
one_alone (p ∷ []) e (inr i) = absurd i
one_alone (p ∷ q ∷ others) e i = absurd cc

pub one_tells : (providers : List ℕ) (n : ℕ) → n ≡ length providers → InList providers 0 → IsTrue (n == 1) ↔ IsZeroAlone providers
one_tells providers n e i = (
  λ t. one_alone providers (sym e ∙ eqb-true n 1 t),
  λ alone. elim (eqb_tells n 1) [ inl p ↦ p.0 | inr p ↦ absurd (p.1 (e ∙ ap length (alone i))) ],
)
