-- What a walk tells of the chains that name one of some URIs.
use Rattle.std.proofs.Common.{◌≡◌, ℕ, ◌⊎◌, ◌↔◌, List, [], ◌∷◌, ◌++◌, map, refl, sym, ap, subst, ◌∙◌, inl, inr}
use Rattle.std.specs.Cmp.Lexicographic.{slice_cmp}
use Rattle.std.specs.Ordering.{nat_cmp}
use Rattle.std.specs.declared.cmp.Ordering.TheVariants.{Equal}
use Rattle.rpki_rules.specs.Report.{IsSetOf}
use Rattle.rpki_rules.specs.Views.{PathValue, path_of}
use Rattle.rpki_rules.specs.Certs.{Cert}
use Rattle.rpki_rules.specs.declared.cause.Cause.{Cause}
use Rattle.rpki_rules.specs.Attests.{Payload, WitnessValue}
use Rattle.rpki_rules.specs.Kinds.{Kind}
use Rattle.rpki_rules.specs.Reach.{NamesOne}
use Rattle.rpki_rules.specs.Words.{Mem}
use Rattle.rpki_rules.specs.World.{World}
use Rattle.rpki_rules.proofs.Orders.{mem_append, mem_map}
use Rattle.rpki_rules.proofs.Sets.{list_equal, octets_equal, then_equal}
use Rattle.rpki_walk.specs.Facts.{Chains, Diagnoses, Unheld, Gains, IsFinding, Originates, Provides, ReachedBy, Reaches, Refuses, ShownBy, Shows}
use Rattle.rpki_walk.specs.Chained.{AreNamingChains, IsChains, IsNamingChain, has_chained, path_cmp}
use Rattle.rpki_walk.specs.declared.reach.chains.Namer.{Namer}

pub refuse_gains : (n : Namer) (name : List ℕ) (why : Cause) → Gains IsChains (has_chained n) (λ x. Refuses name why ≡ x) (has_chained n)
refuse_gains n name why (Refuses m y) t = absurd t
refuse_gains n name why (Shows s) t = absurd t
refuse_gains n name why (Originates s) t = absurd t
refuse_gains n name why (Provides s) t = absurd t
refuse_gains n name why (Reaches k m) t = absurd t
refuse_gains n name why (Chains v) t = (λ m. inl m, λ m. elim m [ inl a ↦ a | inr e ↦ absurd (let p = e in cc) ])
refuse_gains n name why (Diagnoses told) t = absurd t
refuse_gains n name why (Unheld told numbers) t = absurd t

pub show_gains : (n : Namer) (t : WitnessValue) (x : Payload) → Gains IsChains (has_chained n) (ShownBy t x) (has_chained n)
show_gains n t x (Refuses m y) q = absurd q
show_gains n t x (Shows s) q = absurd q
show_gains n t x (Originates s) q = absurd q
show_gains n t x (Provides s) q = absurd q
show_gains n t x (Reaches k m) q = absurd q
show_gains n t x (Chains v) q = (λ m. inl m, λ m. elim m [ inl a ↦ a | inr e ↦ absurd e ])
show_gains n t x (Diagnoses told) q = absurd q
show_gains n t x (Unheld told numbers) q = absurd q

-- A chain that names none, and one that names one.
module _ (uris : List (List ℕ)) (w : World) (held : Kind → ℕ → Type 0) (on : List (List ℕ)) (path : PathValue) (uri : List ℕ) (ca : Cert) where
  pub none_gains : (n : Namer) → ¬ (NamesOne uris w ca) → Gains IsChains (has_chained n) (ReachedBy uris w held on path uri ca) (has_chained n)
  none_gains n lacks (Refuses m y) q = absurd q
  none_gains n lacks (Shows s) q = absurd q
  none_gains n lacks (Originates s) q = absurd q
  none_gains n lacks (Provides s) q = absurd q
  none_gains n lacks (Reaches k m) q = absurd q
  none_gains n lacks (Chains v) q = (λ m. inl m, λ m. elim m [ inl a ↦ a | inr e ↦ absurd (lacks e.0) ])
  none_gains n lacks (Diagnoses told) q = absurd q
  none_gains n lacks (Unheld told numbers) q = absurd q

  pub one_gains : (n m : Namer) → NamesOne uris w ca → (seen : PathValue) → ((v : PathValue) → Mem (map (λ p. path_of p.value) m.paths.items) v ↔ (Mem (map (λ p. path_of p.value) n.paths.items) v ⊎ (seen ≡ v))) → seen ≡ path → Gains IsChains (has_chained n) (ReachedBy uris w held on path uri ca) (has_chained m)
  one_gains n m names seen more same (Refuses k y) q = absurd q
  one_gains n m names seen more same (Shows s) q = absurd q
  one_gains n m names seen more same (Originates s) q = absurd q
  one_gains n m names seen more same (Provides s) q = absurd q
  one_gains n m names seen more same (Reaches k i) q = absurd q
  one_gains n m names seen more same (Diagnoses told) q = absurd q
  one_gains n m names seen more same (Unheld told numbers) q = absurd q
  one_gains n m names seen more same (Chains v) q = let h = more v in (
    λ a. elim (h.0 a) [ inl b ↦ inl b | inr b ↦ inr (names, sym same ∙ b) ],
    λ a. h.1 (elim a [ inl b ↦ inl b | inr b ↦ inr (same ∙ b.1) ]),
  )

-- One more in a list, as it is seen.
pub seen_more : {X Y : Type 0} (f : X → Y) (old new : List X) (z : X) → new ≡ old ++ z ∷ [] → (y : Y) → Mem (map f new) y ↔ (Mem (map f old) y ⊎ (f z ≡ y))
seen_more {X = X} f old new z e y = (
  λ m. let h = (mem_map f new y).0 m in elim ((mem_append old (z ∷ []) h.0).0 (subst (λ (xs : List X). Mem xs h.0) e h.1)) [
    | inl a ↦ inl ((mem_map f old y).1 (h.0, a, h.2))
    | inr b ↦ elim b [ inl c ↦ inr (ap f c ∙ h.2) | inr d ↦ absurd d ]
  ],
  λ m. (mem_map f new y).1 (elim m [
    | inl a ↦ let h = (mem_map f old y).0 a in (h.0, subst (λ (xs : List X). Mem xs h.0) (sym e) ((mem_append old (z ∷ []) h.0).1 (inl h.1)), h.2)
    | inr p ↦ (z, subst (λ (xs : List X). Mem xs z) (sym e) ((mem_append old (z ∷ []) z).1 (inr (inl refl))), p)
  ]),
)

-- What is said of chains.
told_chain : (uris : List (List ℕ)) (w : World) (v : PathValue) → IsFinding uris w (Chains v) ↔ IsNamingChain uris w v
told_chain uris w v = (
  λ t. elim t [
    | inl a ↦ absurd (let p = a.1 in cc)
    | inr b ↦ elim b [
      | inl a ↦ absurd (let p = a.1 in cc)
      | inr c ↦ elim c.4 [
        | inl r ↦ subst (λ (u : PathValue). IsNamingChain uris w u) r.1 (record { anchor = c.1; below = c.2; accepted = c.3; places_are = refl; names = r.0 })
        | inr d ↦ elim d [
          | inl a ↦ absurd (let p = a.0 in cc)
          | inr f ↦ elim f.4 [ inl a ↦ absurd a | inr a ↦ absurd a.2 ]
        ]
      ]
    ]
  ],
  λ r. inr (inr (v.locator, r.anchor, r.below, r.accepted, inl (r.names, λ i. record { locator = v.locator; chain = sym r.places_are i }))),
)

-- The order tells chains apart.
pub one_path : (v u : PathValue) → path_cmp v u ≡ Equal → v ≡ u
one_path v u e =
    let a = then_equal _ _ e in
    let l = octets_equal v.locator u.locator a.0 in let c = list_equal (slice_cmp nat_cmp) octets_equal v.chain u.chain a.1 in
    λ i. record { locator = l i; chain = c i }

-- What was found by a walk, sorted.
pub chains_are : (uris : List (List ℕ)) (w : World) (begun found sorted : List PathValue) → begun ≡ [] → ((v : PathValue) → Mem found v ↔ (Mem begun v ⊎ IsFinding uris w (Chains v))) → IsSetOf path_cmp found sorted → AreNamingChains uris w sorted
chains_are uris w begun found sorted e gained s = record {
  ascend = s.ascend;
  exact = λ v. let t = told_chain uris w v in let h = gained v in let x = s.exact v in (
    λ m. elim (h.0 (x.0 m)) [ inl a ↦ absurd (subst (λ (vs : List PathValue). Mem vs v) e a) | inr q ↦ t.0 q ],
    λ q. x.1 (h.1 (inr (t.1 q))),
  );
}
