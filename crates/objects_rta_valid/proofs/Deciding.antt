-- What is told of certificates: whether one is self-signed, and whether a place continues from it.
use Rattle.std.proofs.Common.{◌≡◌, ◌⊎◌, ℕ, zero, suc, ◌<◌, Bool, true, false, List, Option, Some, None, slice_get, bytes_eq, inl, inr, refl, sym, ap, subst, ◌∙◌, arith}
use Rattle.std.proofs.lemmas.Bool.{both_ways, cases_eq}
use Rattle.std.proofs.lemmas.Slice.Eq.{bytes_eq-Decides}
use Rattle.objects_rta_valid.specs.Nodes.{Node, IsBelow, IsSelfSigned}
use Rattle.objects_rta_valid.specs.Paths.{Continues}
use Rattle.objects_rta_valid.specs.OnPaths.{has}
use Rattle.objects_rta_valid.proofs.Members.{has_from, has_to, at_one}

pub key_told : (a b : List ℕ) → (a ≡ b) ⊎ (a ≡ b → ⊥)
key_told a b = go (bytes_eq a b) refl
  where
    go : (t : Bool) → bytes_eq a b ≡ t → (a ≡ b) ⊎ (a ≡ b → ⊥)
    go true e = inl ((bytes_eq-Decides a b).0 e)
    go false e = inr (λ h. both_ways (bytes_eq a b) e ((bytes_eq-Decides a b).1 h))

some_told : (o : Option (List ℕ)) (key : List ℕ) → (o ≡ Some key) ⊎ (o ≡ Some key → ⊥)
some_told None key = inr (λ e. cc)
some_told (Some k) key = go (key_told k key)
  where
    go : (k ≡ key) ⊎ (k ≡ key → ⊥) → (Some k ≡ Some key) ⊎ (Some k ≡ Some key → ⊥)
    go (inl e) = inl (ap (λ (x : List ℕ). let s : Option (List ℕ) = Some x in s) e)
    go (inr n) = inr (λ e. n cc)

pub below_told : (c p : Node) → IsBelow c p ⊎ (IsBelow c p → ⊥)
below_told c p = some_told c.authority p.subject

pub self_told : (c : Node) → IsSelfSigned c ⊎ (IsSelfSigned c → ⊥)
self_told c = go c.authority refl
  where
    go : (o : Option (List ℕ)) → c.authority ≡ o → IsSelfSigned c ⊎ (IsSelfSigned c → ⊥)
    go None e = inl (inl e)
    go (Some k) e = named (below_told c c)
      where
        no_none : (c.authority ≡ None → ⊥)
        no_none n = let both : Some k ≡ None = sym e ∙ n in cc

        named : IsBelow c c ⊎ (IsBelow c c → ⊥) → IsSelfSigned c ⊎ (IsSelfSigned c → ⊥)
        named (inl b) = inl (inr b)
        named (inr n) = inr neither
          where
            neither : IsSelfSigned c → ⊥
            neither (inl h) = no_none h
            neither (inr h) = n h

pub continues_told : (nodes : List Node) (seen : List ℕ) (c : Node) (place : ℕ) → Continues nodes seen c place ⊎ (Continues nodes seen c place → ⊥)
continues_told nodes seen c place = go (slice_get nodes place) refl
  where
    go : (o : Option Node) → slice_get nodes place ≡ o → Continues nodes seen c place ⊎ (Continues nodes seen c place → ⊥)
    go None e = inr (λ h. let both : None ≡ Some h.parent = sym e ∙ h.at in cc)
    go (Some p) e = test p.issues refl (below_told c p) (has seen place) refl
      where
        parent : (h : Continues nodes seen c place) → h.parent ≡ p
        parent h = at_one nodes place h.parent p h.at e

        test : (b : Bool) → p.issues ≡ b → IsBelow c p ⊎ (IsBelow c p → ⊥) → (s : Bool) → has seen place ≡ s → Continues nodes seen c place ⊎ (Continues nodes seen c place → ⊥)
        test false i below s t = inr (λ h. both_ways p.issues i (ap (λ (q : Node). q.issues) (sym (parent h)) ∙ h.issues))
        test true i (inr n) s t = inr (λ h. n (subst (λ (q : Node). IsBelow c q) (parent h) h.below))
        test true i (inl b) true t = inr (λ h. h.unseen (has_to seen place t))
        test true i (inl b) false t =
            inl (record { parent = p; at = e; issues = i; below = b; unseen = λ h. both_ways (has seen place) t (has_from seen place h) })

-- A place below that number continues, or none does.
pub next_told : (nodes : List Node) (seen : List ℕ) (c : Node) (n : ℕ) → ((place : ℕ) × Continues nodes seen c place) ⊎ ((place : ℕ) → place < n → Continues nodes seen c place → ⊥)
next_told nodes seen c zero = inr (λ place l h. absurd (omega arith))
next_told nodes seen c (suc n) = go (continues_told nodes seen c n) (next_told nodes seen c n)
  where
    go : Continues nodes seen c n ⊎ (Continues nodes seen c n → ⊥) → ((place : ℕ) × Continues nodes seen c place) ⊎ ((place : ℕ) → place < n → Continues nodes seen c place → ⊥) → ((place : ℕ) × Continues nodes seen c place) ⊎ ((place : ℕ) → place < suc n → Continues nodes seen c place → ⊥)
    go (inl h) before = inl (n, h)
    go (inr isnt) (inl some) = inl some
    go (inr isnt) (inr before) = inr none
      where
        none : (place : ℕ) → place < suc n → Continues nodes seen c place → ⊥
        none place l h = by_case (cases_eq place n)
          where
            by_case : (place ≡ n) ⊎ (place ≡ n → ⊥) → ⊥
            by_case (inl e) = isnt (subst (λ (x : ℕ). Continues nodes seen c x) e h)
            by_case (inr ne) = before place (omega arith) h
