-- Whether a place continues a path is decided.
use Rattle.std.proofs.Common.{◌≡◌, ℕ, ◌<◌, zero, suc, Bool, true, false, List, [], ◌∷◌, Option, Some, None, length, get_or, refl, sym, ap, ◌∙◌, subst, inl, inr, arith}
use Rattle.std.specs.Prelude.{◌⊎◌, Contains}
use Rattle.std.specs.List.{slice_get}
use Rattle.std.proofs.lemmas.Bool.Decides.{eqb_tells}
use Rattle.std.proofs.lemmas.Option.{same_Some}
use Rattle.objects_rta_valid.specs.Nodes.{Node, IsBelow, IsSelfSigned}
use Rattle.objects_rta_valid.specs.Paths.{Continues}

abbrev pub Decided : Type 0 → Type 0
Decided P = P ⊎ (P → ⊥)

pub keys_decided : (xs ys : List ℕ) → Decided (xs ≡ ys)
keys_decided [] [] = inl refl
keys_decided [] (y ∷ ys) = inr (λ e. cc)
keys_decided (x ∷ xs) [] = inr (λ e. cc)
keys_decided (x ∷ xs) (y ∷ ys) = elim (eqb_tells x y) [
  | inl same ↦ elim (keys_decided xs ys) [ inl e ↦ inl (both x y xs ys same.1 e) | inr n ↦ inr (λ e. n (tails x y xs ys e)) ]
  | inr other ↦ inr (λ e. other.1 (heads x y xs ys e))
]
  where
    both : (x y : ℕ) (xs ys : List ℕ) → x ≡ y → xs ≡ ys → (x ∷ xs) ≡ (y ∷ ys)
    both x y xs ys e f = cc

    tails : (x y : ℕ) (xs ys : List ℕ) → (x ∷ xs) ≡ (y ∷ ys) → xs ≡ ys
    tails x y xs ys e = cc

    heads : (x y : ℕ) (xs ys : List ℕ) → (x ∷ xs) ≡ (y ∷ ys) → x ≡ y
    heads x y xs ys e = cc

key_decided : (o : Option (List ℕ)) (key : List ℕ) → Decided (o ≡ Some key)
key_decided None key = inr (λ e. cc)
key_decided (Some k) key = elim (keys_decided k key) [ inl e ↦ inl (ap (λ (x : List ℕ). Some x) e) | inr n ↦ inr (λ e. n (same_Some k key e)) ]

pub self_decided : (c : Node) → Decided (IsSelfSigned c)
self_decided c = at c.authority c.subject
  where
    some_none : (k : List ℕ) → Some k ≡ None → ⊥
    some_none k e = cc

    at : (o : Option (List ℕ)) (key : List ℕ) → Decided ((o ≡ None) ⊎ (o ≡ Some key))
    at None key = inl (inl refl)
    at (Some k) key = elim (key_decided (Some k) key) [ inl e ↦ inl (inr e) | inr n ↦ inr (λ s. elim s [ inl none ↦ some_none k none | inr e ↦ n e ]) ]

bool_decided : (b : Bool) → Decided (b ≡ true)
bool_decided true = inl refl
bool_decided false = inr (λ e. cc)

seen_decided : (seen : List ℕ) (x : ℕ) → Decided (Contains seen x)
seen_decided [] x = inr (λ m. absurd (omega (arith, m.1)))
seen_decided (y ∷ ys) x = elim (eqb_tells y x) [
  | inl same ↦ inl (zero, omega arith, same.1)
  | inr other ↦ elim (seen_decided ys x) [
    | inl m ↦ inl (suc m.0, omega (arith, m.1), m.2)
    | inr n ↦ inr (λ m. later y ys x other.1 n m.0 m.1 m.2)
  ]
]
  where
    later : (y : ℕ) (ys : List ℕ) (x : ℕ) → (y ≡ x → ⊥) → (Contains ys x → ⊥) → (k : ℕ) → k < length (y ∷ ys) → get_or (y ∷ ys) k x ≡ x → ⊥
    later y ys x other n zero lt e = other e
    later y ys x other n (suc k) lt e = n (k, omega arith, e)

pub found : {X : Type 0} (xs : List X) (i : ℕ) → ((x : X) × (slice_get xs i ≡ Some x)) ⊎ (slice_get xs i ≡ None)
found [] i = inr refl
found (x ∷ xs) zero = inl (x, refl)
found (x ∷ xs) (suc i) = found xs i

pub continues_decided : (nodes : List Node) (seen : List ℕ) (c : Node) (place : ℕ) → Decided (Continues nodes seen c place)
continues_decided nodes seen c place = elim (found nodes place) [
  | inr none ↦ inr (λ k. missing (slice_get nodes place) k.parent none k.at)
  | inl there ↦ elim (bool_decided there.0.issues) [
    | inr n ↦ inr (λ k. n (subst (λ (p : Node). p.issues ≡ true) (same_Some k.parent there.0 (sym k.at ∙ there.1)) k.issues))
    | inl issues ↦ elim (key_decided c.authority there.0.subject) [
      | inr n ↦ inr (λ k. n (subst (λ (p : Node). IsBelow c p) (same_Some k.parent there.0 (sym k.at ∙ there.1)) k.below))
      | inl below ↦ elim (seen_decided seen place) [
        | inl m ↦ inr (λ k. k.unseen m)
        | inr n ↦ inl (record { parent = there.0; at = there.1; issues = issues; below = below; unseen = n })
      ]
    ]
  ]
]
  where
    missing : (o : Option Node) (p : Node) → o ≡ None → o ≡ Some p → ⊥
    missing o p e f = cc
