-- What paths say of places that are neighbours.
use Rattle.std.proofs.Common.{◌≡◌, ℕ, List, [], ◌∷◌, length, true, refl, sym, ap, ◌∙◌, subst, inl, inr}
use Rattle.std.proofs.lemmas.Option.{same_Some, slice_get_within}
use Rattle.objects_rta_valid.specs.Nodes.{Node, IsBelow, IsSelfSigned}
use Rattle.objects_rta_valid.specs.Paths.{At, Follows, IsPath}
use Rattle.certs_verify.specs.certs_basics.Lists.{Mem}
use Rattle.objects_rta_valid.specs.Places.{AreFunctional, BeginBelow, pairs, pairs_from, pairs_of}
use Rattle.objects_rta_valid.specs.Apart.{AreApart, AreOnly}
use Rattle.objects_rta_valid.proofs.Steps.{mem_split}

pub record IsLinked (nodes : List Node) (a b : ℕ) : Type 0 where
  pub lower : Node
  pub upper : Node
  pub at : At nodes a lower
  pub above : At nodes b upper
  pub open_end : IsSelfSigned lower → ⊥
  pub below : IsBelow lower upper
  pub issues : upper.issues ≡ true

linked_from : (nodes : List Node) (seen : List ℕ) (c : Node) (x : ℕ) (places : List ℕ) (a b : ℕ) → Follows nodes seen c places → At nodes x c
    → Mem (pairs_from x places) (a, b) → IsLinked nodes a b
linked_from nodes seen c x [] a b f at m = absurd m
linked_from nodes seen c x (y ∷ ys) a b f at (inl e) =
    let lower : At nodes a c = subst (λ (n : ℕ). At nodes n c) (ap (λ (q : ℕ × ℕ). q.0) e) at in
    let upper : At nodes b f.1.parent = subst (λ (n : ℕ). At nodes n f.1.parent) (ap (λ (q : ℕ × ℕ). q.1) e) f.1.at in
    record { lower = c; upper = f.1.parent; at = lower; above = upper; open_end = f.0; below = f.1.below; issues = f.1.issues }
linked_from nodes seen c x (y ∷ ys) a b f at (inr m) = linked_from nodes (y ∷ seen) f.1.parent y ys a b f.2 f.1.at m

linked_on : (nodes : List Node) (sid places : List ℕ) (a b : ℕ) → IsPath nodes sid places → Mem (pairs_of places) (a, b) → IsLinked nodes a b
linked_on nodes sid [] a b p m = absurd m
linked_on nodes sid (x ∷ places) a b p m = linked_from nodes (x ∷ []) p.0 x places a b p.3 p.1 m

pub pair_linked : (nodes : List Node) (sids paths : List (List ℕ)) (a b : ℕ) → AreOnly nodes sids paths → Mem (pairs paths) (a, b) → IsLinked nodes a b
pair_linked nodes [] [] a b only m = absurd m
pair_linked nodes [] (path ∷ paths) a b only m = absurd only
pair_linked nodes (sid ∷ sids) [] a b only m = absurd only
pair_linked nodes (sid ∷ sids) (path ∷ paths) a b only m = elim (mem_split (pairs_of path) (pairs paths) (a, b) m) [
  | inl here ↦ linked_on nodes sid path a b only.0.is here
  | inr there ↦ pair_linked nodes sids paths a b only.1 there
]

pub pairs_begin : (nodes : List Node) (sids paths : List (List ℕ)) → AreOnly nodes sids paths → BeginBelow (length nodes) (pairs paths)
pairs_begin nodes sids paths only a b m = let l = pair_linked nodes sids paths a b only m in slice_get_within nodes a l.lower l.at

pub pairs_functional : (nodes : List Node) (sids paths : List (List ℕ)) → AreApart nodes → AreOnly nodes sids paths → AreFunctional (pairs paths)
pairs_functional nodes sids paths apart only a b c m n =
    let l : IsLinked nodes a b = pair_linked nodes sids paths a b only m in
    let k : IsLinked nodes a c = pair_linked nodes sids paths a c only n in
    let same : l.lower ≡ k.lower = same_Some l.lower k.lower (sym l.at ∙ k.at) in
    let subjects : l.upper.subject ≡ k.upper.subject = same_Some l.upper.subject k.upper.subject (sym l.below ∙ ap (λ (x : Node). x.authority) same ∙ k.below) in
    apart b c l.upper k.upper l.above k.above subjects

-- The paths of signers are no others.
pub only_these : (nodes : List Node) (sids paths others : List (List ℕ)) → AreOnly nodes sids paths → AreOnly nodes sids others → others ≡ paths
only_these nodes [] [] [] p q = refl
only_these nodes [] [] (o ∷ others) p q = absurd q
only_these nodes [] (x ∷ paths) others p q = absurd p
only_these nodes (s ∷ sids) [] others p q = absurd p
only_these nodes (s ∷ sids) (x ∷ paths) [] p q = absurd q
only_these nodes (s ∷ sids) (x ∷ paths) (o ∷ others) p q = both x o paths others (p.0.only o q.0.is) (only_these nodes sids paths others p.1 q.1)
  where
    both : (x o : List ℕ) (paths others : List (List ℕ)) → o ≡ x → others ≡ paths → (o ∷ others) ≡ (x ∷ paths)
    both x o paths others e f = cc
