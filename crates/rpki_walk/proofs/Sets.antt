-- Unions of sets.
use Rattle.std.proofs.Common.{◌≡◌, ℕ, ◌↔◌, List, [], ◌∷◌, ◌++◌, refl, sym, subst, inl, inr}
use Rattle.rpki_walk.specs.resources_chain.Sets.{Run, IsRunsOf, InEither}
use Rattle.rpki_walk.specs.resources.Resources.{Resources, Combines, HasNone, IsNone}
use Rattle.rpki_rules.specs.Words.{Mem}
use Rattle.rpki_rules.specs.Kinds.{Kind, Ipv4, Ipv6, As, of_kind, InSet}
use Rattle.rpki_rules.proofs.Orders.{mem_append}
use Rattle.rpki_walk.specs.Gathered.{AreUnionOf}

pub runs_same : {P Q : ℕ → Type 0} (rs : List Run) → IsRunsOf P rs → ((n : ℕ) → P n ↔ Q n) → IsRunsOf Q rs
runs_same rs r e = record { maximal = r.maximal; same = λ n. let a = r.same n in let b = e n in (λ i. b.0 (a.0 i), λ q. a.1 (b.1 q)) }

each_kind : (a b r : Resources) → Combines InEither a b r → (k : Kind) → IsRunsOf (InEither (of_kind a k) (of_kind b k)) (of_kind r k)
each_kind a b r c Ipv4 = c.v4s
each_kind a b r c Ipv6 = c.v6s
each_kind a b r c As = c.asns

none_of_kind : (a : Resources) → HasNone a → (k : Kind) → IsNone (of_kind a k)
none_of_kind a h Ipv4 = h.1
none_of_kind a h Ipv6 = h.2
none_of_kind a h As = h.0

pub union_none : (a r : Resources) → HasNone a → Combines InEither a a r → AreUnionOf [] r
union_none a r h c k = runs_same (of_kind r k) (each_kind a a r c k) (λ n. (
  λ q. elim q [ inl i ↦ absurd (none_of_kind a h k n i) | inr i ↦ absurd (none_of_kind a h k n i) ],
  λ q. absurd q.1,
))

pub union_one : (a r : Resources) → Combines InEither a a r → AreUnionOf (a ∷ []) r
union_one a r c k = runs_same (of_kind r k) (each_kind a a r c k) (λ n. (
  λ q. (a, inl refl, elim q [ inl i ↦ i | inr i ↦ i ]),
  λ q. elim q.1 [ inl e ↦ inl (subst (λ (s : Resources). InSet s k n) (sym e) q.2) | inr m ↦ absurd m ],
))

pub union_both : (xs ys all : List Resources) (a b r : Resources) → all ≡ xs ++ ys → AreUnionOf xs a → AreUnionOf ys b → Combines InEither a b r → AreUnionOf all r
union_both xs ys all a b r e f g c k = runs_same (of_kind r k) (each_kind a b r c k) (λ n. let x = (f k).same n in let y = (g k).same n in (
  λ q. elim q [
    | inl i ↦ let h = x.0 i in (h.0, subst (λ (zs : List Resources). Mem zs h.0) (sym e) ((mem_append xs ys h.0).1 (inl h.1)), h.2)
    | inr i ↦ let h = y.0 i in (h.0, subst (λ (zs : List Resources). Mem zs h.0) (sym e) ((mem_append xs ys h.0).1 (inr h.1)), h.2)
  ],
  λ h. elim ((mem_append xs ys h.0).0 (subst (λ (zs : List Resources). Mem zs h.0) e h.1)) [ inl m ↦ inl (x.1 (h.0, m, h.2)) | inr m ↦ inr (y.1 (h.0, m, h.2)) ],
))
