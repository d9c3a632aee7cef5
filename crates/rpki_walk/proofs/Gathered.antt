-- What the walk gathers.
use Rattle.std.proofs.Common.{◌≡◌, ℕ, ◌⊎◌, ◌↔◌, List, [], ◌∷◌, ◌++◌, refl, sym, subst, ◌∙◌, inl, inr}
use Rattle.rpki_walk.specs.resources.Resources.{Resources}
use Rattle.rpki_rules.specs.Certs.{Cert}
use Rattle.rpki_rules.specs.declared.cause.Cause.{Cause}
use Rattle.rpki_rules.specs.Words.{Mem}
use Rattle.rpki_rules.specs.Kinds.{Kind, of_kind, InSet}
use Rattle.rpki_rules.specs.World.{World}
use Rattle.rpki_rules.specs.Attests.{Payload, WitnessValue}
use Rattle.rpki_rules.specs.Reach.{NamesOne, IsReached, SomeLocatorNames, IsReach, Held}
use Rattle.rpki_rules.proofs.Orders.{mem_append}
use Rattle.rpki_rules.specs.Views.{PathValue}
use Rattle.rpki_walk.specs.Facts.{Refuses, Shows, Originates, Provides, Reaches, Chains, Diagnoses, Unheld, ShownBy, ReachedBy, Gains, IsFinding}
use Rattle.rpki_walk.specs.Gathered.{InSome, AreUnionOf, has_gathered, IsReaches}
use Rattle.rpki_walk.specs.declared.reach.gather.Gatherer.{Gatherer}
use Rattle.rpki_walk.proofs.Sets.{runs_same}

pub refuse_gains : (g : Gatherer) (name : List ℕ) (why : Cause) → Gains IsReaches (has_gathered g) (λ x. Refuses name why ≡ x) (has_gathered g)
refuse_gains g name why (Refuses n y) t = absurd t
refuse_gains g name why (Shows s) t = absurd t
refuse_gains g name why (Originates s) t = absurd t
refuse_gains g name why (Provides s) t = absurd t
refuse_gains g name why (Reaches k n) t = (λ m. inl m, λ m. elim m [ inl a ↦ a | inr e ↦ absurd (let p = e in cc) ])
refuse_gains g name why (Chains v) t = absurd t
refuse_gains g name why (Diagnoses told) t = absurd t
refuse_gains g name why (Unheld told numbers) t = absurd t

pub show_gains : (g : Gatherer) (t : WitnessValue) (x : Payload) → Gains IsReaches (has_gathered g) (ShownBy t x) (has_gathered g)
show_gains g t x (Refuses n y) q = absurd q
show_gains g t x (Shows s) q = absurd q
show_gains g t x (Originates s) q = absurd q
show_gains g t x (Provides s) q = absurd q
show_gains g t x (Reaches k n) q = (λ m. inl m, λ m. elim m [ inl a ↦ a | inr e ↦ absurd e ])
show_gains g t x (Chains v) q = absurd q
show_gains g t x (Diagnoses told) q = absurd q
show_gains g t x (Unheld told numbers) q = absurd q

-- An authority that names none, and one that names one.
pub none_gains : (g : Gatherer) (uris : List (List ℕ)) (w : World) (sets : Resources) (on : List (List ℕ)) (path : PathValue) (uri : List ℕ) (ca : Cert) → ¬ (NamesOne uris w ca) → Gains IsReaches (has_gathered g) (ReachedBy uris w (InSet sets) on path uri ca) (has_gathered g)
none_gains g uris w sets on path uri ca lacks (Refuses n y) q = absurd q
none_gains g uris w sets on path uri ca lacks (Shows s) q = absurd q
none_gains g uris w sets on path uri ca lacks (Originates s) q = absurd q
none_gains g uris w sets on path uri ca lacks (Provides s) q = absurd q
none_gains g uris w sets on path uri ca lacks (Reaches k n) q = (λ m. inl m, λ m. elim m [ inl a ↦ a | inr e ↦ absurd (lacks e.0) ])
none_gains g uris w sets on path uri ca lacks (Chains v) q = absurd q
none_gains g uris w sets on path uri ca lacks (Diagnoses told) q = absurd q
none_gains g uris w sets on path uri ca lacks (Unheld told numbers) q = absurd q

some_more : (old new : List Resources) (s sets : Resources) → new ≡ old ++ s ∷ [] → s ≡ sets → (k : Kind) (n : ℕ) → InSome new k n ↔ (InSome old k n ⊎ InSet sets k n)
some_more old new s sets e f k n = (
  λ m. elim ((mem_append old (s ∷ []) m.0).0 (subst (λ (zs : List Resources). Mem zs m.0) e m.1)) [
    | inl a ↦ inl (m.0, a, m.2)
    | inr b ↦ elim b [ inl c ↦ inr (subst (λ (z : Resources). InSet z k n) (sym c ∙ f) m.2) | inr d ↦ absurd d ]
  ],
  λ m. elim m [
    | inl a ↦ (a.0, subst (λ (zs : List Resources). Mem zs a.0) (sym e) ((mem_append old (s ∷ []) a.0).1 (inl a.1)), a.2)
    | inr b ↦ (s, subst (λ (zs : List Resources). Mem zs s) (sym e) ((mem_append old (s ∷ []) s).1 (inr (inl refl))), subst (λ (z : Resources). InSet z k n) (sym f) b)
  ],
)

pub one_gains : (f g : Gatherer) (uris : List (List ℕ)) (w : World) (s sets : Resources) (on : List (List ℕ)) (path : PathValue) (uri : List ℕ) (ca : Cert) → NamesOne uris w ca → g.sets.items ≡ f.sets.items ++ s ∷ [] → s ≡ sets → Gains IsReaches (has_gathered f) (ReachedBy uris w (InSet sets) on path uri ca) (has_gathered g)
one_gains f g uris w s sets on path uri ca names e h (Refuses n y) q = absurd q
one_gains f g uris w s sets on path uri ca names e h (Shows t) q = absurd q
one_gains f g uris w s sets on path uri ca names e h (Originates t) q = absurd q
one_gains f g uris w s sets on path uri ca names e h (Provides t) q = absurd q
one_gains f g uris w s sets on path uri ca names e h (Reaches k n) q = let m = some_more f.sets.items g.sets.items s sets e h k n in (
  λ a. elim (m.0 a) [ inl b ↦ inl b | inr b ↦ inr (names, b) ],
  λ a. m.1 (elim a [ inl b ↦ inl b | inr b ↦ inr b.1 ]),
)
one_gains f g uris w s sets on path uri ca names e h (Chains v) q = absurd q
one_gains f g uris w s sets on path uri ca names e h (Diagnoses told) q = absurd q
one_gains f g uris w s sets on path uri ca names e h (Unheld told numbers) q = absurd q

-- What a walk tells as reached is what is reached.
told_reached : (uris : List (List ℕ)) (w : World) (k : Kind) (n : ℕ) → IsFinding uris w (Reaches k n) ↔ IsReached uris w k n
told_reached uris w k n = (
  λ t. elim t [
    | inl a ↦ absurd (let p = a.1 in cc)
    | inr b ↦ elim b [
      | inl a ↦ absurd (let p = a.1 in cc)
      | inr c ↦ elim c.4 [
        | inl r ↦ record { name = c.0; anchor = c.1; below = c.2; accepted = c.3; names = r.0; holds = r.1 }
        | inr d ↦ elim d [
          | inl a ↦ absurd (let p = a.0 in cc)
          | inr f ↦ elim f.4 [ inl a ↦ absurd a | inr a ↦ absurd a.2 ]
        ]
      ]
    ]
  ],
  λ r. inr (inr (r.name, r.anchor, r.below, r.accepted, inl (r.names, r.holds))),
)

pub held_is : (uris : List (List ℕ)) (w : World) (old new : List Resources) (r : Resources) → ¬ (SomeLocatorNames uris w) → old ≡ []
    → ((k : Kind) (n : ℕ) → InSome new k n ↔ (InSome old k n ⊎ IsFinding uris w (Reaches k n))) → AreUnionOf new r → IsReach uris w (Held r)
held_is uris w old new r none e gained union = (
  none,
  λ k. runs_same (of_kind r k) (union k) (λ n. let t = told_reached uris w k n in let h = gained k n in (
    λ i. elim (h.0 i) [ inl a ↦ absurd (subst (λ (zs : List Resources). Mem zs a.0) e a.1) | inr q ↦ t.0 q ],
    λ q. h.1 (inr (t.1 q)),
  )),
)
