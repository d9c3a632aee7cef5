-- The order of octets.
use Rattle.std.proofs.Common.{◌≡◌, ◌↔◌, ℕ, Bool, true, false, IsTrue, MatchBool, List, [], ◌∷◌, inl, inr, refl, sym, subst, arith}
use Rattle.std.proofs.lemmas.Bool.{cases_lt}
use Rattle.objects_written.specs.Orders.{IsOrdered}

-- Of two one doesn't come after the other.
pub turned : (v w : List ℕ) → (IsOrdered v w → ⊥) → IsOrdered w v
turned [] w n = absurd (n tt)
turned (a ∷ v) [] n = tt
turned (a ∷ v) (b ∷ w) n = elim (cases_lt a b) [
  | inl less ↦ absurd (n (inl less))
  | inr not_less ↦ elim (cases_lt b a) [
    | inl less ↦ inl less
    | inr same ↦ let e : a ≡ b = omega (arith, not_less, same) in inr (sym e, turned v w (λ q. n (inr (e, q))))
  ]
]

pub first_told : (r : Bool) (v w a b : List ℕ) → v ≡ a → w ≡ b → IsTrue r ↔ IsOrdered v w → MatchBool r (IsOrdered a b) (IsOrdered b a)
first_told true v w a b e f h = subst (λ (x : List ℕ). IsOrdered x b) e (subst (λ (y : List ℕ). IsOrdered v y) f (h.0 refl))
first_told false v w a b e f h = subst (λ (x : List ℕ). IsOrdered b x) e (subst (λ (y : List ℕ). IsOrdered y v) f (turned v w (λ p. let wrong : false ≡ true = h.1 p in absurd cc)))
