-- Chains that end alike.
use Rattle.std.proofs.Common.{◌≡◌, ◌↔◌, ℕ, suc, ◌<◌, ◌≤◌, List, [], ◌∷◌, length, refl, sym, ap, subst, inl, inr, arith}
use Rattle.rpki_rules.specs.Certs.{Cert}
use Rattle.rpki_rules.specs.Words.{Mem}
use Rattle.rpki_rules.specs.World.{World}
use Rattle.rpki_rules.specs.Points.{Link, Point, files}
use Rattle.rpki_rules.specs.Chains.{last_of, places, keys, IsFront, Holds, Stands, Accepted}
use Rattle.rpki_rules.specs.Attests.{Payload, WitnessValue, IsGood}
use Rattle.rpki_rules.specs.declared.cause.Cause.{Cause}
use Rattle.rpki_rules.specs.declared.cause.Cause.TheVariants as cause
use Rattle.rpki_rules.specs.Refused.{IsIssued, IsFileRefused}
use Rattle.rpki_rules.proofs.Fronts.{front_itself, accepted_up, keys_count}
use Rattle.rpki_walk.specs.Facts.{Finding, Refuses, Shows, Originates, Provides, Reaches, Chains, Diagnoses, Unheld, ShownBy, RefusedBy, Tells, Found}
use Rattle.rpki_walk.specs.Alike.{IsPrinted, IsMetAt, Meets, EndAlike, AlikeTellAlike}
use Rattle.rpki_walk.proofs.Findings.{stands_to, issued_to, good_to, refused_to}

turned : {P Q : Type 0} → P ↔ Q → Q ↔ P
turned e = (e.1, e.0)

pub alike_turned : (met : List (List ℕ)) (a b : Link) (cs ds : List Link) → EndAlike met a cs b ds → EndAlike met b ds a cs
alike_turned met a b cs ds e = record {
  last = sym e.last;
  holds = λ k n. turned (e.holds k n);
  count = sym e.count;
  on = λ key m. turned (e.on key m);
}

-- Both have a point that stands, or neither has.
stands_alike : (w : World) (met : List (List ℕ)) (a b : Link) (cs ds : List Link) → EndAlike met a cs b ds → (p : Point) → Stands w b ds p → Stands w a cs p
stands_alike w met a b cs ds e p s =
    stands_to (Holds b ds) (Holds a cs) (λ k n. (e.holds k n).1) w (last_of a cs).cert p
    (subst (λ (l : Link). Stands-at l) (sym e.last) s)
  where
    Stands-at : Link → Type 0
    Stands-at l = Rattle.rpki_rules.specs.Chains.StandsIn w (Holds b ds) l.cert p

issued_alike : (w : World) (met : List (List ℕ)) (a b : Link) (cs ds : List Link) → EndAlike met a cs b ds → (p : Point) (uri : List ℕ) (c : Cert) → IsIssued w (Holds b ds) (last_of b ds).cert p uri c → IsIssued w (Holds a cs) (last_of a cs).cert p uri c
issued_alike w met a b cs ds e p uri c i =
    issued_to (Holds b ds) (Holds a cs) (λ k n. (e.holds k n).1) w (last_of a cs).cert p uri c
    (subst (λ (l : Link). IsIssued w (Holds b ds) l.cert p uri c) (sym e.last) i)

met_alike : (w : World) (met : List (List ℕ)) (a b : Link) (cs ds : List Link) → EndAlike met a cs b ds → (c : Cert) → IsMetAt w b ds c → IsMetAt w a cs c
met_alike w met a b cs ds e c m = record {
  point = m.point;
  stands = stands_alike w met a b cs ds e m.point m.stands;
  uri = m.uri;
  listed = subst (λ (l : Link). Mem (files l.cert m.point.manifest) m.uri) (sym e.last) m.listed;
  issued = issued_alike w met a b cs ds e m.point m.uri c m.issued;
}

-- The certificate that follows is issued there.
met_next : (w : World) (name : List ℕ) (a c : Link) (cs : List Link) → Accepted w name a (c ∷ cs) → IsMetAt w a cs c.cert
met_next w name a c cs h = let d = h.descends in record {
  point = d.1;
  stands = d.2;
  uri = c.uri;
  listed = d.3.file.listed;
  issued = record { extension = d.3.file.extension; reads = d.3.file.reads; child = d.3.child };
}

-- What a chain that goes on from one of two that end alike is for the other.
pub record Other (w : World) (met : List (List ℕ)) (name : List ℕ) (a : Link) (cs : List Link) (b : Link) (es : List Link) : Type 0 where
  pub chain : List Link
  pub front : IsFront cs chain
  pub accepted : Accepted w name a chain
  pub alike : EndAlike met a chain b es

module _ (w : World) (met : List (List ℕ)) (name other : List ℕ) (a b : Link) (cs ds : List Link) (acc : Accepted w name a cs) (meets : Meets w name a cs met) (alike : EndAlike met a cs b ds) where
  here : (es : List Link) → ds ≡ es → Other w met name a cs b es
  here es e = record { chain = cs; front = front_itself cs; accepted = acc; alike = subst (λ (xs : List Link). EndAlike met a cs b xs) e alike }

  longer : (c : Link) (es : List Link) → Accepted w other b (c ∷ es) → Other w met name a cs b es → Other w met name a cs b (c ∷ es)
  unfolding met_alike met_next
  longer c es h o =
      let m1 = met_alike w met a b o.chain es o.alike c.cert (met_next w other b c es h) in
      let known : Mem met c.cert.tbs.subject_key_identifier = meets o.chain o.front o.accepted c.cert m1 in
      let d = h.descends in
      record {
        chain = c ∷ o.chain;
        front = inr o.front;
        accepted = record {
          descends = (
            o.accepted.descends,
            m1.point,
            m1.stands,
            record {
              file = record { listed = m1.listed; extension = d.3.file.extension; reads = d.3.file.reads };
              child = m1.issued.child;
            },
          );
          once = (λ k. h.once.0 ((o.alike.on c.cert.tbs.subject_key_identifier known).0 k), o.accepted.once);
          short = let s : length (c ∷ es) < w.depth = h.short in let n = o.alike.count in omega arith;
        };
        alike = record {
          last = refl;
          holds = λ k n. (
            λ z. (z.0, (o.alike.holds k n).0 z.1),
            λ z. (z.0, (o.alike.holds k n).1 z.1),
          );
          count = ap suc-of o.alike.count;
          on = λ key m. let r = o.alike.on key m in (
            λ z. elim z [ inl e ↦ inl e | inr q ↦ inr (r.0 q) ],
            λ z. elim z [ inl e ↦ inl e | inr q ↦ inr (r.1 q) ],
          );
        };
      }
    where
      suc-of : ℕ → ℕ
      suc-of n = suc n

  -- Each accepted chain that goes on from the one has its like that goes on from the other.
  pub other_chain : (es : List Link) → IsFront ds es → Accepted w other b es → Other w met name a cs b es
  other_chain [] f h = here [] f
  other_chain (c ∷ es) (inl e) h = here (c ∷ es) e
  other_chain (c ∷ es) (inr f) h = longer c es h (other_chain es f (accepted_up w other b c es h))

  pub meets_alike : Meets w other b ds met
  meets_alike es f h c m =
      let o = other_chain es f h in
      meets o.chain o.front o.accepted c (met_alike w met a b o.chain es o.alike c m)

  -- A file that is refused at the end of one is refused at the end of the other.
  refused_on : (o es : List Link) (e : EndAlike met a o b es) (p : Point) (uri : List ℕ) → ((c : Cert) → IsIssued w (Holds a o) (last_of a o).cert p uri c → Mem met c.tbs.subject_key_identifier) → (why : Cause) → IsFileRefused w (Holds a o) (keys b es) (length (keys b es)) (last_of a o).cert p uri why → IsFileRefused w (Holds a o) (keys a o) (length (keys a o)) (last_of a o).cert p uri why
  refused_on o es e p uri known cause.Tal r = r
  refused_on o es e p uri known cause.Anchor r = r
  refused_on o es e p uri known cause.Point r = r
  refused_on o es e p uri known cause.Object r = r
  refused_on o es e p uri known cause.Loop r = (r.0, r.1, (e.on r.0.tbs.subject_key_identifier (known r.0 r.1)).1 r.2)
  refused_on o es e p uri known cause.Depth r = (
    r.0,
    r.1,
    λ m. r.2 ((e.on r.0.tbs.subject_key_identifier (known r.0 r.1)).0 m),
    let d : w.depth ≤ length (keys b es) = r.3 in let n = keys_count a o in let k = keys_count b es in let l = e.count in omega arith,
  )

  refused_alike : (o es : List Link) (e : EndAlike met a o b es) (p : Point) (uri : List ℕ) → ((c : Cert) → IsIssued w (Holds a o) (last_of a o).cert p uri c → Mem met c.tbs.subject_key_identifier) → (why : Cause) → IsFileRefused w (Holds b es) (keys b es) (length (keys b es)) (last_of b es).cert p uri why → IsFileRefused w (Holds a o) (keys a o) (length (keys a o)) (last_of a o).cert p uri why
  refused_alike o es e p uri known why r =
      let r1 = subst (λ (l : Link). IsFileRefused w (Holds b es) (keys b es) (length (keys b es)) l.cert p uri why) (sym e.last) r in
      refused_on o es e p uri known why (refused_to (Holds b es) (Holds a o) (λ k n. turned (e.holds k n)) w (keys b es) (length (keys b es)) (last_of a o).cert p uri why r1)

  good_alike : (o es : List Link) (e : EndAlike met a o b es) (p : Point) (uri : List ℕ) (y : Payload) → IsGood w (Holds b es) (last_of b es).cert p uri y → IsGood w (Holds a o) (last_of a o).cert p uri y
  good_alike o es e p uri y g =
      good_to (Holds b es) (Holds a o) (λ k n. (e.holds k n).1) w (last_of a o).cert p uri y
      (subst (λ (l : Link). IsGood w (Holds b es) l.cert p uri y) (sym e.last) g)

  -- What lines tell of an object doesn't depend on its trace.
  shown_alike : (s t : WitnessValue) (y : Payload) (x : Finding) → IsPrinted x → ShownBy s y x → ShownBy t y x
  shown_alike s t y (Refuses n why) i h = h
  shown_alike s t y (Shows u) i h = absurd i
  shown_alike s t y (Originates z) i h = h
  shown_alike s t y (Provides z) i h = h
  shown_alike s t y (Reaches k n) i h = h
  shown_alike s t y (Chains v) i h = h
  shown_alike s t y (Diagnoses told) i h = h
  shown_alike s t y (Unheld told numbers) i h = h

  refused_told : (o es : List Link) (e : EndAlike met a o b es) (p : Point) (uri : List ℕ) → ((c : Cert) → IsIssued w (Holds a o) (last_of a o).cert p uri c → Mem met c.tbs.subject_key_identifier) → (x : Finding) → RefusedBy w (Holds b es) (keys b es) (last_of b es).cert p uri x → RefusedBy w (Holds a o) (keys a o) (last_of a o).cert p uri x
  refused_told o es e p uri known (Refuses n why) r = (r.0, refused_alike o es e p uri known why r.1)
  refused_told o es e p uri known (Shows u) r = r
  refused_told o es e p uri known (Originates z) r = r
  refused_told o es e p uri known (Provides z) r = r
  refused_told o es e p uri known (Reaches k n) r = r
  refused_told o es e p uri known (Chains v) r = r
  refused_told o es e p uri known (Diagnoses told) r = r
  refused_told o es e p uri known (Unheld told numbers) r = r

  tells_alike : (o es : List Link) (f : IsFront cs o) (h : Accepted w name a o) (e : EndAlike met a o b es) (x : Finding) → IsPrinted x → Tells [] w other b es x → Tells [] w name a o x
  tells_alike o es f h e x i (inl r) = absurd (not_reached x i r)
    where
      not_reached : (x : Finding) → IsPrinted x → ¬ (Rattle.rpki_walk.specs.Facts.ReachedBy [] w (Holds b es) (keys b es) (record { locator = other; chain = places b es }) (last_of b es).uri (last_of b es).cert x)
      not_reached (Refuses n why) i r = r
      not_reached (Shows u) i r = r
      not_reached (Originates z) i r = r
      not_reached (Provides z) i r = r
      not_reached (Reaches k n) i r = i
      not_reached (Chains v) i r = i
      not_reached (Diagnoses told) i r = i
      not_reached (Unheld told numbers) i r = i
  tells_alike o es f h e x i (inr (inl t)) = inr (inl (
    subst (λ (l : Link). Refuses l.uri cause.Point ≡ x) (sym e.last) t.0,
    λ p s. t.1 p (stands_alike w met b a es o (alike_turned met a b o es e) p s),
  ))
  tells_alike o es f h e x i (inr (inr q)) =
      let p = q.0 in let uri = q.2 in
      let s = stands_alike w met a b o es e p q.1 in
      let m = subst (λ (l : Link). Mem (files l.cert p.manifest) uri) (sym e.last) q.3 in
      let known : (c : Cert) → IsIssued w (Holds a o) (last_of a o).cert p uri c → Mem met c.tbs.subject_key_identifier = λ c k. meets o f h c (record { point = p; stands = s; uri = uri; listed = m; issued = k }) in
      inr (inr (
        p,
        s,
        uri,
        m,
        elim q.4 [
          | inl r ↦ inl (refused_told o es e p uri known x r)
          | inr g ↦ inr (g.0, good_alike o es e p uri g.0 g.1, shown_alike (record { locator = other; chain = places b es; object = uri }) (record { locator = name; chain = places a o; object = uri }) g.0 x i g.2)
        ],
      ))

  pub found_alike : (x : Finding) → IsPrinted x → Found [] w other b ds x → Found [] w name a cs x
  found_alike x i f =
      let o = other_chain f.chain f.front f.accepted in
      record { chain = o.chain; front = o.front; accepted = o.accepted; tells = tells_alike o.chain f.chain o.front o.accepted o.alike x i f.tells }

pub alike_tell_alike : AlikeTellAlike
alike_tell_alike w met name other a b cs ds acc acc2 meets alike x i = (
  found_alike w met other name b a ds cs acc2 (meets_alike w met name other a b cs ds acc meets alike) (alike_turned met a b cs ds alike) x i,
  found_alike w met name other a b cs ds acc meets alike x i,
)
