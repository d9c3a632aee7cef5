-- What is told is what is attested and refused, and so the findings make the report.
use Rattle.std.proofs.Common.{◌≡◌, ℕ, ◌+◌, ◌↔◌, List, [], ◌∷◌, ◌++◌, map, Vec, Global, length, refl, sym, ap, subst, ◌∙◌, inl, inr}
use Rattle.rpki_rules.specs.declared.cause.Cause.{Cause}
use Rattle.rpki_rules.specs.declared.cause.Cause.TheVariants as cause
use Rattle.rpki_rules.specs.Certs.{Cert}
use Rattle.rpki_rules.specs.Kinds.{Kind}
use Rattle.rpki_rules.specs.Words.{Mem}
use Rattle.rpki_rules.specs.World.{World}
use Rattle.rpki_rules.specs.Points.{Link, Point, files}
use Rattle.rpki_rules.specs.Chains.{last_of, places, keys, Holds, Stands, Accepted}
use Rattle.rpki_rules.specs.Attests.{Origin, Provision, Payload, origins, provisions, WitnessValue, Good, IsGood, IsWitness, AttestsOrigin, AttestsProvision}
use Rattle.rpki_rules.specs.Refused.{LocatorRefused, AnchorRefused, IsFileRefused, ChainRefuses, IsRefused}
use Rattle.rpki_rules.specs.Lines.{Customer, Refusal}
use Rattle.rpki_rules.specs.Output.{AreCustomers, IsCustomer}
use Rattle.rpki_rules.specs.Report.{ReportValue, IsReportOf, IsReport, AreCustomersOf, IsCustomerOf}
use Rattle.rpki_rules.specs.Views.{PathValue, origin_of, provision_of, refusal_of, witness_of}
use Rattle.rpki_rules.proofs.Orders.{each_at, each_of}
use Rattle.rpki_rules.proofs.Groups.{customers_to}
use Rattle.rpki_rules.specs.declared.witness.Witness.{Witness as CodeWitness}
use Rattle.rpki_walk.specs.declared.whole.Findings.{Findings}
use Rattle.rpki_walk.specs.Facts.{Finding, Refuses, Shows, Originates, Provides, Reaches, Chains, Diagnoses, Unheld, ShownBy, ReachedBy, RefusedBy, IsFinding, Gains}
use Rattle.rpki_walk.specs.Alike.{IsPrinted}
use Rattle.rpki_walk.specs.Lines.{has_found, IsLine}
use Rattle.rpki_walk.specs.Walked.{has_lines}
use Rattle.rpki_rules.proofs.Fronts.{keys_count}
use Rattle.rpki_walk.proofs.Chained.{seen_more}

-- A good object at the end of an accepted chain that stands.
good_of : (w : World) (name : List ℕ) (a : Link) (cs : List Link) → Accepted w name a cs → (p : Point) → Stands w a cs p → (uri : List ℕ) (x : Payload) → IsGood w (Holds a cs) (last_of a cs).cert p uri x → Good w (record { locator = name; chain = places a cs; object = uri }) x
good_of w name a cs acc p s uri x g = record { anchor = a; below = cs; places_are = refl; accepted = acc; point = p; stands = s; good = g }

-- What a good object tells, its chain tells.
told_by : (w : World) (t : WitnessValue) (x : Payload) (g : Good w t x) (y : Finding) → ShownBy t x y → IsFinding [] w y
told_by w t x g y s =
    let e : t ≡ record { locator = t.locator; chain = places g.anchor g.below; object = t.object } = λ i. record { locator = t.locator; chain = g.places_are i; object = t.object } in
    inr (inr (t.locator, g.anchor, g.below, g.accepted, inr (inr (g.point, g.stands, t.object, g.good.is_signed.listed, inr (x, g.good, subst (λ (u : WitnessValue). ShownBy u x y) e s)))))

module _ (w : World) where
  -- Of what is no refusal, and what no chain tells by what it holds and names, a good object tells what is told.
  shown : (x : Finding) → ((name : List ℕ) (why : Cause) → ¬ (Refuses name why ≡ x)) → ((held : Kind → ℕ → Type 0) (on : List (List ℕ)) (path : PathValue) (uri : List ℕ) (ca : Cert) → ¬ (ReachedBy [] w held on path uri ca x)) → ((held : Kind → ℕ → Type 0) (on : List (List ℕ)) (ca : Cert) (p : Point) (uri : List ℕ) → ¬ (RefusedBy w held on ca p uri x)) → IsFinding [] w x → (t : WitnessValue) × (y : Payload) × Good w t y × ShownBy t y x
  shown x other unreached unrefused (inl t) = absurd (other t.0 cause.Tal t.1)
  shown x other unreached unrefused (inr (inl t)) = absurd (other t.0 cause.Anchor t.1)
  shown x other unreached unrefused (inr (inr t)) = elim t.4 [
    | inl r ↦ absurd (unreached _ _ _ _ _ r)
    | inr u ↦ elim u [
      | inl n ↦ absurd (other (last_of t.1 t.2).uri cause.Point n.0)
      | inr q ↦ elim q.4 [
        | inl r ↦ absurd (unrefused _ _ _ _ _ r)
        | inr y ↦ (record { locator = t.0; chain = places t.1 t.2; object = q.2 }, y.0, good_of w t.0 t.1 t.2 t.3 q.0 q.1 q.2 y.0 y.1, y.2)
      ]
    ]
  ]

  pub told_origin : (o : Origin) → IsFinding [] w (Originates o) ↔ AttestsOrigin w o
  told_origin o = (
    λ f. let s = shown (Originates o) (λ n y e. let q = e in cc) (λ h on v u ca r. r) (λ h on ca p u r. r) f in record { witness = s.0; payload = s.1; good = s.2; one = s.3 },
    λ h. told_by w h.witness h.payload h.good (Originates o) h.one,
  )

  pub told_provision : (o : Provision) → IsFinding [] w (Provides o) ↔ AttestsProvision w o
  told_provision o = (
    λ f. let s = shown (Provides o) (λ n y e. let q = e in cc) (λ h on v u ca r. r) (λ h on ca p u r. r) f in record { witness = s.0; payload = s.1; good = s.2; one = s.3 },
    λ h. told_by w h.witness h.payload h.good (Provides o) h.one,
  )

  told_trace : (s : WitnessValue) → IsFinding [] w (Shows s) ↔ IsWitness w s
  told_trace s = (
    λ f. let t = shown (Shows s) (λ n y e. let q = e in cc) (λ h on v u ca r. r) (λ h on ca p u r. r) f in subst (IsWitness w) t.3 (t.1, t.2),
    λ h. told_by w s h.0 h.1 (Shows s) refl,
  )

  pub told_refusal : (name : List ℕ) (why : Cause) → IsFinding [] w (Refuses name why) ↔ IsRefused w name why
  told_refusal name why = (to, from)
    where
      to : IsFinding [] w (Refuses name why) → IsRefused w name why
      to (inl t) = let e = t.1 in let n : t.0 ≡ name = cc in let y : cause.Tal ≡ why = cc in inl (sym y, subst (λ (m : List ℕ). LocatorRefused w m) n t.2)
      to (inr (inl t)) = let e = t.1 in let n : t.0 ≡ name = cc in let y : cause.Anchor ≡ why = cc in inr (inl (sym y, subst (λ (m : List ℕ). AnchorRefused w m) n t.2))
      to (inr (inr t)) = elim t.4 [
        | inl r ↦ absurd r
        | inr u ↦ elim u [
          | inl n ↦ let e = n.0 in let m : (last_of t.1 t.2).uri ≡ name = cc in let y : cause.Point ≡ why = cc in inr (inr (t.0, t.1, t.2, inl (sym y, record { accepted = t.3; place = m; none = n.1 })))
          | inr q ↦ elim q.4 [
            | inl r ↦ inr (inr (
              t.0,
              t.1,
              t.2,
              inr (record {
                accepted = t.3;
                point = q.0;
                stands = q.1;
                listed = subst (λ (m : List ℕ). Mem (files (last_of t.1 t.2).cert q.0.manifest) m) r.0 q.3;
                refused = subst (λ (m : List ℕ). IsFileRefused w (Holds t.1 t.2) (keys t.1 t.2) (length t.2 + 1) (last_of t.1 t.2).cert q.0 m why) r.0 (subst (λ (n : ℕ). IsFileRefused w (Holds t.1 t.2) (keys t.1 t.2) n (last_of t.1 t.2).cert q.0 q.2 why) (keys_count t.1 t.2) r.1);
              }),
            ))
            | inr y ↦ absurd y.2
          ]
        ]
      ]

      from_chain : (l : List ℕ) (a : Link) (cs : List Link) → ChainRefuses w l a cs name why → IsFinding [] w (Refuses name why)
      from_chain l a cs (inl h) = let r = h.1 in
          let e : Refuses (last_of a cs).uri cause.Point ≡ Refuses name why = λ i. Refuses (r.place i) (sym h.0 i) in
          inr (inr (l, a, cs, r.accepted, inr (inl (e, r.none))))
      from_chain l a cs (inr r) =
          let f = subst (λ (n : ℕ). IsFileRefused w (Holds a cs) (keys a cs) n (last_of a cs).cert r.point name why) (sym (keys_count a cs)) r.refused in
          inr (inr (l, a, cs, r.accepted, inr (inr (r.point, r.stands, name, r.listed, inl (refl, f)))))

      from : IsRefused w name why → IsFinding [] w (Refuses name why)
      from (inl h) = inl (name, ap (λ (y : Cause). Refuses name y) (sym h.0), h.1)
      from (inr (inl h)) = inr (inl (name, ap (λ (y : Cause). Refuses name y) (sym h.0), h.1))
      from (inr (inr h)) = from_chain h.0 h.1 h.2 h.3

  -- Customers by what is attested.
  pub customers_of : (cs : List Customer) → AreCustomersOf (AttestsProvision w) cs → AreCustomers w cs
  customers_of cs h = record {
    ascending = h.ascending;
    each = each_of (IsCustomer w) cs (λ c m. let k = each_at (IsCustomerOf (AttestsProvision w)) cs c h.each m in record { ascending = k.ascending; some = k.some; exact = k.exact });
    complete = h.complete;
  }

  none : {X Y : Type 0} (v : X → Y) (xs : List X) (y : Y) → xs ≡ [] → ¬ (Mem (map v xs) y)
  none {X = X} v xs y e m = subst (λ (zs : List X). Mem (map v zs) y) e m

  -- From nothing, all that is told.
  pub report_is : (f g : Findings) → f.lines.origins.items ≡ [] → f.lines.provisions.items ≡ [] → f.lines.refusals.items ≡ [] → f.witnesses.items ≡ [] → Gains IsLine (has_found f) (IsFinding [] w) (has_found g) → (r : ReportValue) → IsReportOf (map origin_of g.lines.origins.items) (map provision_of g.lines.provisions.items) (map refusal_of g.lines.refusals.items) (map witness_of g.witnesses.items) r → IsReport w r
  report_is f g eo ep er ew gained r h =
      let at : (x : Finding) → IsLine x → ¬ (has_found f x) → has_found g x ↔ IsFinding [] w x = λ x l n. let k = gained x l in (λ m. elim (k.0 m) [ inl o ↦ absurd (n o) | inr t ↦ t ], λ t. k.1 (inr t)) in
      let os : (o : Origin) → Mem (map origin_of g.lines.origins.items) o ↔ AttestsOrigin w o = λ o. let a = at (Originates o) tt (none origin_of f.lines.origins.items o eo) in let b = told_origin o in (λ m. b.0 (a.0 m), λ m. a.1 (b.1 m)) in
      let ps : (o : Provision) → Mem (map provision_of g.lines.provisions.items) o ↔ AttestsProvision w o = λ o. let a = at (Provides o) tt (none provision_of f.lines.provisions.items o ep) in let b = told_provision o in (λ m. b.0 (a.0 m), λ m. a.1 (b.1 m)) in
      let ts : (t : WitnessValue) → Mem (map witness_of g.witnesses.items) t ↔ IsWitness w t = λ t. let a = at (Shows t) tt (none witness_of f.witnesses.items t ew) in let b = told_trace t in (λ m. b.0 (a.0 m), λ m. a.1 (b.1 m)) in
      let rs : (x : Refusal) → Mem (map refusal_of g.lines.refusals.items) x ↔ IsRefused w x.name x.cause = λ x. let a = at (Refuses x.name x.cause) tt (none refusal_of f.lines.refusals.items x er) in let b = told_refusal x.name x.cause in (λ m. b.0 (a.0 m), λ m. a.1 (b.1 m)) in
      record {
        origins_are = record { ascend = h.origins_are.ascend; exact = λ o. (λ m. (os o).0 ((h.origins_are.exact o).0 m), λ m. (h.origins_are.exact o).1 ((os o).1 m)) };
        customers_are = customers_of r.customers (customers_to (Mem (map provision_of g.lines.provisions.items)) (AttestsProvision w) ps r.customers h.customers_are);
        refusals_are = record { ascend = h.refusals_are.ascend; exact = λ x. (λ m. (rs x).0 ((h.refusals_are.exact x).0 m), λ m. (h.refusals_are.exact x).1 ((rs x).1 m)) };
        witnesses_are = record { ascend = h.witnesses_are.ascend; exact = λ t. (λ m. (ts t).0 ((h.witnesses_are.exact t).0 m), λ m. (h.witnesses_are.exact t).1 ((ts t).1 m)) };
      }

-- One refusal more.
pub refuse_gains : (f g : Findings) (name : List ℕ) (why : Cause) → g.witnesses ≡ f.witnesses → Gains IsPrinted (has_lines f.lines) (λ x. Refuses name why ≡ x) (has_lines g.lines) → Gains IsLine (has_found f) (λ x. Refuses name why ≡ x) (has_found g)
refuse_gains f g name why ew h (Refuses n y) t = h (Refuses n y) tt
refuse_gains f g name why ew h (Shows s) t = (λ m. inl (subst (λ (v : Vec CodeWitness Global). Mem (map witness_of v.items) s) ew m), λ m. elim m [ inl a ↦ subst (λ (v : Vec CodeWitness Global). Mem (map witness_of v.items) s) (sym ew) a | inr q ↦ absurd (let p = q in cc) ])
refuse_gains f g name why ew h (Originates s) t = h (Originates s) tt
refuse_gains f g name why ew h (Provides s) t = h (Provides s) tt
refuse_gains f g name why ew h (Reaches k n) t = absurd t
refuse_gains f g name why ew h (Chains v) t = absurd t
refuse_gains f g name why ew h (Diagnoses told) t = absurd t
refuse_gains f g name why ew h (Unheld told numbers) t = absurd t

-- One good object more.
pub show_gains : (f g : Findings) (t : WitnessValue) (x : Payload) (z : CodeWitness) → witness_of z ≡ t → ((s : WitnessValue) → Gains IsPrinted (has_lines f.lines) (ShownBy s x) (has_lines g.lines)) → g.witnesses.items ≡ f.witnesses.items ++ z ∷ [] → Gains IsLine (has_found f) (ShownBy t x) (has_found g)
show_gains f g t x z et h ew (Refuses n y) k = h t (Refuses n y) tt
show_gains f g t x z et h ew (Shows s) k = let m = seen_more witness_of f.witnesses.items g.witnesses.items z ew s in (
  λ y. elim (m.0 y) [ inl a ↦ inl a | inr q ↦ inr (sym et ∙ q) ],
  λ y. m.1 (elim y [ inl a ↦ inl a | inr q ↦ inr (et ∙ q) ]),
)
show_gains f g t x z et h ew (Originates s) k = h t (Originates s) tt
show_gains f g t x z et h ew (Provides s) k = h t (Provides s) tt
show_gains f g t x z et h ew (Reaches i n) k = absurd k
show_gains f g t x z et h ew (Chains v) k = absurd k
show_gains f g t x z et h ew (Diagnoses told) k = absurd k
show_gains f g t x z et h ew (Unheld told numbers) k = absurd k
