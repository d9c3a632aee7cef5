-- Octets have one tree at most in front, in each mode and across the modes.
use Rattle.std.proofs.Common.{◌≡◌, ℕ, inl, inr, true, false, List, [], ◌∷◌, ◌++◌, refl, sym, ap, ◌∙◌, append_assoc}
use Rattle.bcder_tree.specs.declared.mode.Mode.{Mode}
use Rattle.bcder_tree.specs.Tree.{Tree, Trees, primitive, constructed, none, more}
use Rattle.bcder_tree.specs.Front.{Front, Fields}
use Rattle.bcder_tree.proofs.Parts.{one_split, not_mixed, one_open, Ends, split_goes_on, open_goes_on, split_primitive, constructed_parts}

-- A tree in front goes on: the octets are some, and do not begin with 0.
pub tree_goes_on : {m : Mode} {s : List ℕ} {rest : List ℕ} (t : Tree) → Front m s t rest → Ends s → ⊥
tree_goes_on (primitive t v) f e = split_goes_on (split_primitive f) e
tree_goes_on (constructed t ts) f e =
    elim (constructed_parts f).splits [
      | inl d ↦ split_goes_on d.1 e
      | inr d ↦ open_goes_on d.1 e
    ]

not_both : {A : Type 0} → false ≡ true → A
not_both e = absurd cc

-- Of some trees the first is in front, and what spells the others comes after it.
more_front : {m : Mode} {t : Tree} {ts : Trees} {s a : List ℕ} (x : List ℕ) → s ≡ a ++ x → (sp : Fields m a (more t ts)) → Front m s t (sp.spelled.1 ++ x)
more_front x e sp = record { text = sp.spelled.0; spelled = sp.spelled.2; whole = e ∙ ap (λ (z : List ℕ). z ++ x) sp.spelled.4 ∙ append_assoc sp.spelled.0 sp.spelled.1 x }

mutual
  -- Octets have one tree at most in front, and one end of it.
  pub one_tree : {m p : Mode} {s r q : List ℕ} (t u : Tree) → Front m s t r → Front p s u q → (t ≡ u) × (r ≡ q)
  one_tree (primitive t v) (primitive u w) f g =
      let o = one_split (split_primitive f) (split_primitive g) in
      let tag : t ≡ u = o.tag in
      let content : v ≡ w = o.content in
      (cc, o.behind)
  one_tree (primitive t v) (constructed u us) f g =
      elim (constructed_parts g).splits [
        | inl c ↦ not_both (one_split (split_primitive f) c.1).form
        | inr c ↦ absurd (not_mixed (split_primitive f) c.1)
      ]
  one_tree (constructed t ts) (primitive u w) f g =
      elim (constructed_parts f).splits [
        | inl d ↦ not_both (one_split (split_primitive g) d.1).form
        | inr d ↦ absurd (not_mixed (split_primitive g) d.1)
      ]
  one_tree {r = r} {q} (constructed t ts) (constructed u us) f g =
      let a = constructed_parts f in
      let b = constructed_parts g in
      elim a.splits [
        | inl d ↦ elim b.splits [
          | inl c ↦
              let o = one_split d.1 c.1 in
              let tag : t ≡ u = o.tag in
              let trees : ts ≡ us = (one_trees ts us [] [] a.trees b.trees tt tt (ap (λ (z : List ℕ). z ++ []) o.content)).0 in
              (cc, o.behind)
          | inr c ↦ absurd (not_mixed d.1 c.1)
        ]
        | inr d ↦ elim b.splits [
          | inl c ↦ absurd (not_mixed c.1 d.1)
          | inr c ↦
              let o = one_open d.1 c.1 in
              let tag : t ≡ u = o.0 in
              let trees = one_trees ts us (0 ∷ 0 ∷ r) (0 ∷ 0 ∷ q) a.trees b.trees refl refl o.1 in
              let members : ts ≡ us = trees.0 in
              let rest : 0 ∷ 0 ∷ r ≡ 0 ∷ 0 ∷ q = trees.1 in
              (cc, cc)
        ]
      ]

  -- Octets have one row of trees at most in front of an end.
  pub one_trees : {m p : Mode} {a b : List ℕ} (ts us : Trees) (x y : List ℕ) → Fields m a ts → Fields p b us → Ends x → Ends y → a ++ x ≡ b ++ y → (ts ≡ us) × (x ≡ y)
  one_trees {a = a} {b} none none x y f g p q e =
      let left : a ≡ [] = f.spelled in
      let right : b ≡ [] = g.spelled in
      (refl, cc)
  one_trees {a = a} none (more u us) x y f g p q e =
      let left : x ≡ a ++ x = ap (λ (z : List ℕ). z ++ x) (sym f.spelled) in
      absurd (tree_goes_on u (more_front y (left ∙ e) g) p)
  one_trees {b = b} (more t ts) none x y f g p q e =
      let right : y ≡ b ++ y = ap (λ (z : List ℕ). z ++ y) (sym g.spelled) in
      absurd (tree_goes_on t (more_front x (right ∙ sym e) f) q)
  one_trees (more t ts) (more u us) x y f g p q e =
      let o = one_tree t u (more_front x refl f) (more_front y e g) in
      let r = one_trees ts us x y (record { spelled = f.spelled.3 }) (record { spelled = g.spelled.3 }) p q o.1 in
      let first : t ≡ u = o.0 in
      let others : ts ≡ us = r.0 in
      (cc, r.1)

-- Octets spell one row of trees at most.
pub one_fields : {m p : Mode} {s : List ℕ} {ts us : Trees} → Fields m s ts → Fields p s us → ts ≡ us
one_fields {ts = ts} {us} f g = (one_trees ts us [] [] f g tt tt refl).0
