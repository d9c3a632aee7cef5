-- What files and chains tell, and what the walk gains by them.
use Rattle.std.proofs.Common.{◌≡◌, ℕ, ◌<◌, ◌≤◌, ◌⊎◌, ◌↔◌, true, List, [], ◌∷◌, ◌++◌, length, Option, Some, None, Result, IfOk, refl, sym, ap, subst, ◌∙◌, inl, inr, arith}
use Rattle.std.proofs.lemmas.Result.{IfOk-weaker}
use Rattle.rpki_walk.specs.resources.Resources.{Resources}
use Rattle.rpki_rules.specs.Certs.{Cert, ca_is_ca}
use Rattle.rpki_rules.specs.Objects.{Object}
use Rattle.rpki_rules.specs.declared.cause.Cause.{Cause}
use Rattle.rpki_rules.specs.declared.cause.Cause.TheVariants as cause
use Rattle.rpki_rules.specs.Words.{Mem}
use Rattle.rpki_rules.specs.Kinds.{Kind, InSet}
use Rattle.rpki_rules.specs.World.{World}
use Rattle.rpki_rules.specs.Points.{Link, Point, files}
use Rattle.rpki_rules.specs.Chains.{last_of, places, keys, Holds, StandsIn, Stands, HasExtension, roa, asa, IsChild, Accepted}
use Rattle.rpki_rules.proofs.Readings.{one_cert_at, one_point, one_good, no_cer_payload}
use Rattle.rpki_rules.proofs.Fronts.{front_itself, front_up, front_cases, accepted_front, keys_count}
use Rattle.rpki_rules.specs.Views.{PathValue}
use Rattle.rpki_rules.specs.Attests.{Payload, OfRoa, OfAspa, PayloadText, WitnessValue, IsGood}
use Rattle.rpki_rules.specs.Refused.{IsFileRefused, IsBadCer, IsBadPayload, IsIssued}
use Rattle.rpki_walk.specs.Repository.{IsIgnored, HasKept, IsFileKind, IsRead}
use Rattle.rpki_walk.specs.Facts.{Finding, Refuses, Shows, Originates, Provides, Reaches, Chains, Diagnoses, Unheld, ShownBy, ReachedBy, RefusedBy, TellsFile, Tells, Found, Stand, FromFile, Classified, ComesOf, Gains, Walks}
use Rattle.rpki_walk.specs.declared.repository.FileKind.{FileKind}
use Rattle.rpki_walk.specs.declared.repository.FileKind.TheVariants as Is
use Rattle.rpki_walk.specs.declared.chains.Outcome.{Outcome}
use Rattle.rpki_walk.specs.declared.chains.Outcome.TheVariants as Does
use Rattle.rpki_walk.proofs.Mems.{gains_same, gains_none, gains_more}
use Rattle.rpki_walk.proofs.ReasonMoves.{ends_to, tells_to}
pub use Rattle.rpki_walk.proofs.Moves.{fits_to, stands_to, child_to, issued_to, good_to}

pub refused_to : (h k : Kind → ℕ → Type 0) → ((i : Kind) (n : ℕ) → h i n ↔ k i n) → (w : World) (on : List (List ℕ)) (count : ℕ) (ca : Cert) (p : Point) (uri : List ℕ) (why : Cause) → IsFileRefused w h on count ca p uri why → IsFileRefused w k on count ca p uri why
refused_to h k e w on count ca p uri cause.Tal r = r
refused_to h k e w on count ca p uri cause.Anchor r = r
refused_to h k e w on count ca p uri cause.Point r = r
refused_to h k e w on count ca p uri cause.Object (inl b) = inl (record { extension = b.extension; cases = elim b.cases [ inl n ↦ inl n | inr q ↦ inr (q.0, q.1, q.2, λ i. q.3 (child_to k h (λ i n. (e i n).1) w ca p q.0 i)) ] })
refused_to h k e w on count ca p uri cause.Object (inr b) = inr (record { extension = b.extension; none = λ x g. b.none x (good_to k h (λ i n. (e i n).1) w ca p uri x g) })
refused_to h k e w on count ca p uri cause.Loop r = (r.0, issued_to h k (λ i n. (e i n).0) w ca p uri r.0 r.1, r.2)
refused_to h k e w on count ca p uri cause.Depth r = (r.0, issued_to h k (λ i n. (e i n).0) w ca p uri r.0 r.1, r.2, r.3)

payload_extension : (w : World) (uri octets : List ℕ) (o : Object) (x : Payload) → PayloadText w uri octets o x → HasExtension roa uri ⊎ HasExtension asa uri
payload_extension w uri octets o (OfRoa r) p = inl p.0
payload_extension w uri octets o (OfAspa a) p = inr p.0

good_extension : (w : World) (held : Kind → ℕ → Type 0) (ca : Cert) (p : Point) (uri : List ℕ) (x : Payload) → IsGood w held ca p uri x → HasExtension roa uri ⊎ HasExtension asa uri
good_extension w held ca p uri x g = payload_extension w uri g.is_signed.octets g.object x g.is_signed.reads

-- What is refused of a file, and why.
refused_parts : (w : World) (held : Kind → ℕ → Type 0) (on : List (List ℕ)) (ca : Cert) (p : Point) (uri : List ℕ) (x : Finding) → RefusedBy w held on ca p uri x → (why : Cause) × (Refuses uri why ≡ x) × IsFileRefused w held on (length on) ca p uri why
refused_parts w held on ca p uri (Refuses n why) t = (why, ap (λ (m : List ℕ). Refuses m why) t.0, t.1)
refused_parts w held on ca p uri (Shows s) t = absurd t
refused_parts w held on ca p uri (Originates o) t = absurd t
refused_parts w held on ca p uri (Provides o) t = absurd t
refused_parts w held on ca p uri (Reaches k n) t = absurd t
refused_parts w held on ca p uri (Chains v) t = absurd t
refused_parts w held on ca p uri (Diagnoses told) t = absurd t
refused_parts w held on ca p uri (Unheld told numbers) t = absurd t

pub reached_to : (uris : List (List ℕ)) (w : World) (h k : Kind → ℕ → Type 0) (on : List (List ℕ)) (path : PathValue) (uri : List ℕ) (ca : Cert) → ((i : Kind) (n : ℕ) → h i n ↔ k i n) → (x : Finding) → ReachedBy uris w h on path uri ca x → ReachedBy uris w k on path uri ca x
reached_to uris w h k on path uri ca e (Refuses n why) r = r
reached_to uris w h k on path uri ca e (Shows s) r = r
reached_to uris w h k on path uri ca e (Originates o) r = r
reached_to uris w h k on path uri ca e (Provides o) r = r
reached_to uris w h k on path uri ca e (Reaches i n) r = (r.0, (e i n).0 r.1)
reached_to uris w h k on path uri ca e (Chains v) r = r
reached_to uris w h k on path uri ca e (Diagnoses told) r = ends_to h k e w on path uri ca told r
reached_to uris w h k on path uri ca e (Unheld told numbers) r = tells_to h k e w on path uri ca told numbers r

module _ (uris : List (List ℕ)) (w : World) (name : List ℕ) (a : Link) (cs : List Link) where
  abbrev ca : Cert
  ca = (last_of a cs).cert

  abbrev here : PathValue
  here = record { locator = name; chain = places a cs }

  -- Where the point stands, what is found is what the chain reaches and what its files add.
  pub found_at_point : (p : Point) → Accepted w name a cs → Stands w a cs p → (x : Finding) → (ReachedBy uris w (Holds a cs) (keys a cs) here (last_of a cs).uri ca x ⊎ ((uri : List ℕ) × Mem (files ca p.manifest) uri × FromFile uris w name a cs p uri x)) ↔ Found uris w name a cs x
  found_at_point p acc s x = (
    λ g. elim g [
      | inl r ↦ record { chain = cs; front = front_itself cs; accepted = acc; tells = inl r }
      | inr h ↦ elim h.2 [
        | inl t ↦ record { chain = cs; front = front_itself cs; accepted = acc; tells = inr (inr (p, s, h.0, h.1, t)) }
        | inr l ↦ let f = l.4 in record { chain = f.chain; front = front_up (record { uri = h.0; cert = l.0 }) cs f.chain f.front; accepted = f.accepted; tells = f.tells }
      ]
    ],
    λ f. elim (front_cases cs f.chain f.front) [
      | inl e ↦ let t = subst (λ xs. Tells uris w name a xs x) e f.tells in elim t [
        | inl r ↦ inl r
        | inr u ↦ elim u [
          | inl n ↦ absurd (n.1 p s)
          | inr q ↦ let o = one_point w ca q.0 p q.1.point s.point in
              inr (q.2, subst (λ (r : Point). Mem (files ca r.manifest) q.2) o q.3, inl (subst (λ (r : Point). TellsFile w (Holds a cs) (keys a cs) name (places a cs) ca r q.2 x) o q.4))
        ]
      ]
      | inr g ↦ let h = accepted_front w name a (g.0 ∷ cs) f.chain g.1 f.accepted in
          let d = h.descends in let o = one_point w ca d.1 p d.2.point s.point in let i = d.3 in inr (
            g.0.uri,
            subst (λ (r : Point). Mem (files ca r.manifest) g.0.uri) o i.file.listed,
            inr (
              g.0.cert,
              subst (λ (r : Point). IsIssued w (Holds a cs) ca r g.0.uri g.0.cert) o (record { extension = i.file.extension; reads = i.file.reads; child = i.child }),
              h.once.0,
              (let l : length (g.0 ∷ cs) < w.depth = h.short in let k = keys_count a cs in omega arith),
              record { chain = f.chain; front = g.1; accepted = f.accepted; tells = f.tells },
            ),
          )
    ],
  )

  -- And where none stands, what the chain reaches and the refusal.
  pub found_at_none : Accepted w name a cs → ((p : Point) → ¬ (Stands w a cs p)) → (x : Finding) → (ReachedBy uris w (Holds a cs) (keys a cs) here (last_of a cs).uri ca x ⊎ (Refuses (last_of a cs).uri cause.Point ≡ x)) ↔ Found uris w name a cs x
  found_at_none acc n x = (
    λ g. record { chain = cs; front = front_itself cs; accepted = acc; tells = elim g [ inl r ↦ inl r | inr e ↦ inr (inl (e, n)) ] },
    λ f. elim (front_cases cs f.chain f.front) [
      | inl e ↦ elim (subst (λ xs. Tells uris w name a xs x) e f.tells) [ inl r ↦ inl r | inr u ↦ elim u [ inl t ↦ inr t.0 | inr q ↦ absurd (n q.0 q.1) ] ]
      | inr g ↦ let h = accepted_front w name a (g.0 ∷ cs) f.chain g.1 f.accepted in absurd (n h.descends.1 h.descends.2)
    ],
  )

  module _ (p : Point) (uri : List ℕ) where
    abbrev pub Finding-here : Finding → Type 0
    Finding-here x = TellsFile w (Holds a cs) (keys a cs) name (places a cs) ca p uri x

    abbrev pub Refused-here : Cause → Type 0
    Refused-here why = IsFileRefused w (Holds a cs) (keys a cs) (length (keys a cs)) ca p uri why

    abbrev pub Good-here : Payload → Type 0
    Good-here x = IsGood w (Holds a cs) ca p uri x

    abbrev pub Issued-here : Cert → Type 0
    Issued-here c = IsIssued w (Holds a cs) ca p uri c

    abbrev pub Bad-here : Type 0
    Bad-here = IsBadCer w (Holds a cs) ca p uri ⊎ IsBadPayload w (Holds a cs) ca p uri

    parts : (x : Finding) → RefusedBy w (Holds a cs) (keys a cs) ca p uri x → (why : Cause) × (Refuses uri why ≡ x) × Refused-here why
    parts x t = refused_parts w (Holds a cs) (keys a cs) ca p uri x t

    issued_is_ca : (c : Cert) → Issued-here c → c.tbs.basic_ca ≡ Some true
    issued_is_ca c i = ca_is_ca w.digests true c i.child.sound.profile

    -- What is issued isn't bad.
    not_bad : (c : Cert) → Issued-here c → ¬ Bad-here
    not_bad c i (inl b) = elim b.cases [
      | inl n ↦ n c i.reads
      | inr q ↦ q.3 (subst (λ (d : Cert). IsChild w (Holds a cs) ca p d) (one_cert_at w uri c q.0 i.reads q.1) i.child)
    ]
    not_bad c i (inr b) = no_cer_payload uri i.extension b.extension

    not_good : (c : Cert) → Issued-here c → (x : Payload) → ¬ (Good-here x)
    not_good c i x g = no_cer_payload uri i.extension (good_extension w (Holds a cs) ca p uri x g)

    good_not_bad : (x : Payload) → Good-here x → ¬ Bad-here
    good_not_bad x g (inl b) = no_cer_payload uri b.extension (good_extension w (Holds a cs) ca p uri x g)
    good_not_bad x g (inr b) = b.none x g

    good_refused : (x : Payload) (why : Cause) → Good-here x → ¬ (Refused-here why)
    good_refused x cause.Tal g r = r
    good_refused x cause.Anchor g r = r
    good_refused x cause.Point g r = r
    good_refused x cause.Object g r = good_not_bad x g r
    good_refused x cause.Loop g r = not_good r.0 r.1 x g
    good_refused x cause.Depth g r = not_good r.0 r.1 x g

    -- A certificate that is issued is refused as a loop or as too deep, or not at all.
    issued_refused : (c : Cert) (why : Cause) → Issued-here c → Refused-here why → ((why ≡ cause.Loop) × Mem (keys a cs) c.tbs.subject_key_identifier) ⊎ ((why ≡ cause.Depth) × ¬ (Mem (keys a cs) c.tbs.subject_key_identifier) × (w.depth ≤ length (keys a cs)))
    issued_refused c cause.Tal i r = absurd r
    issued_refused c cause.Anchor i r = absurd r
    issued_refused c cause.Point i r = absurd r
    issued_refused c cause.Object i r = absurd (not_bad c i r)
    issued_refused c cause.Loop i r = inl (refl, subst (λ (d : Cert). Mem (keys a cs) d.tbs.subject_key_identifier) (one_cert_at w uri r.0 c r.1.reads i.reads) r.2)
    issued_refused c cause.Depth i r = inr (refl, subst (λ (d : Cert). ¬ (Mem (keys a cs) d.tbs.subject_key_identifier)) (one_cert_at w uri r.0 c r.1.reads i.reads) r.2, r.3)

    issued_tells : (c : Cert) (x : Finding) → Issued-here c → Finding-here x → ((Refuses uri cause.Loop ≡ x) × Mem (keys a cs) c.tbs.subject_key_identifier) ⊎ ((Refuses uri cause.Depth ≡ x) × ¬ (Mem (keys a cs) c.tbs.subject_key_identifier) × (w.depth ≤ length (keys a cs)))
    issued_tells c x i (inr g) = absurd (not_good c i g.0 g.1)
    issued_tells c x i (inl t) = let h = parts x t in elim (issued_refused c h.0 i h.2) [
      | inl q ↦ inl (ap (λ (y : Cause). Refuses uri y) (sym q.0) ∙ h.1, q.1)
      | inr q ↦ inr (ap (λ (y : Cause). Refuses uri y) (sym q.0) ∙ h.1, q.1, q.2)
    ]

    bad_refused : (why : Cause) → Bad-here → Refused-here why → why ≡ cause.Object
    bad_refused cause.Tal b r = absurd r
    bad_refused cause.Anchor b r = absurd r
    bad_refused cause.Point b r = absurd r
    bad_refused cause.Object b r = refl
    bad_refused cause.Loop b r = absurd (not_bad r.0 r.1 b)
    bad_refused cause.Depth b r = absurd (not_bad r.0 r.1 b)

    bad_tells : (x : Finding) → Bad-here → FromFile uris w name a cs p uri x → Refuses uri cause.Object ≡ x
    bad_tells x b (inr l) = absurd (not_bad l.0 l.1 b)
    bad_tells x b (inl (inr g)) = absurd (good_not_bad g.0 g.1 b)
    bad_tells x b (inl (inl t)) = let h = parts x t in ap (λ (y : Cause). Refuses uri y) (sym (bad_refused h.0 b h.2)) ∙ h.1

    ignored_issued : IsIgnored w uri → (c : Cert) → ¬ (Issued-here c)
    ignored_issued d c i = elim d.no_authority [
      | inl n ↦ n i.extension
      | inr q ↦ q.2 (subst (λ (e : Cert). e.tbs.basic_ca ≡ Some true) (one_cert_at w uri c q.0 i.reads q.1) (issued_is_ca c i))
    ]

    ignored_bad : IsIgnored w uri → ¬ Bad-here
    ignored_bad d (inl b) = elim d.no_authority [
      | inl n ↦ n b.extension
      | inr q ↦ elim b.cases [
        | inl n ↦ n q.0 q.1
        | inr r ↦ q.2 (subst (λ (e : Cert). e.tbs.basic_ca ≡ Some true) (one_cert_at w uri r.0 q.0 r.1 q.1) r.2)
      ]
    ]
    ignored_bad d (inr b) = d.no_payload b.extension

    ignored_refused : (why : Cause) → IsIgnored w uri → ¬ (Refused-here why)
    ignored_refused cause.Tal d r = r
    ignored_refused cause.Anchor d r = r
    ignored_refused cause.Point d r = r
    ignored_refused cause.Object d r = ignored_bad d r
    ignored_refused cause.Loop d r = ignored_issued d r.0 r.1
    ignored_refused cause.Depth d r = ignored_issued d r.0 r.1

    pub from_nothing : (x : Finding) → IsIgnored w uri → ¬ (FromFile uris w name a cs p uri x)
    from_nothing x d (inr l) = ignored_issued d l.0 l.1
    from_nothing x d (inl (inr g)) = d.no_payload (good_extension w (Holds a cs) ca p uri g.0 g.1)
    from_nothing x d (inl (inl t)) = let h = parts x t in ignored_refused h.0 d h.2

    abbrev pub witness_here : WitnessValue
    witness_here = record { locator = name; chain = places a cs; object = uri }

    pub from_attests : (x : Payload) (y : Finding) → Good-here x → ShownBy witness_here x y ↔ FromFile uris w name a cs p uri y
    from_attests x y g = (λ s. inl (inr (x, g, s)), back)
      where
        back : FromFile uris w name a cs p uri y → ShownBy witness_here x y
        back (inr l) = absurd (not_good l.0 l.1 x g)
        back (inl (inl t)) = let h = parts y t in absurd (good_refused x h.0 g h.2)
        back (inl (inr q)) = subst (λ (z : Payload). ShownBy witness_here z y) (one_good w (Holds a cs) ca p uri q.0 x q.1 g) q.2

    pub from_refused : (why : Cause) (x : Finding) → Refused-here why → (Refuses uri why ≡ x) ↔ FromFile uris w name a cs p uri x
    from_refused why x c = (λ e. subst (λ (z : Finding). FromFile uris w name a cs p uri z) e (inl (inl (refl, c))), back why c)
      where
        back : (why : Cause) → Refused-here why → FromFile uris w name a cs p uri x → Refuses uri why ≡ x
        back cause.Tal c f = absurd c
        back cause.Anchor c f = absurd c
        back cause.Point c f = absurd c
        back cause.Object c f = bad_tells x c f
        back cause.Loop c (inl t) = elim (issued_tells c.0 x c.1 t) [ inl h ↦ h.0 | inr h ↦ absurd (h.1 c.2) ]
        back cause.Loop c (inr l) = absurd (l.2 (subst (λ (d : Cert). Mem (keys a cs) d.tbs.subject_key_identifier) (one_cert_at w uri c.0 l.0 c.1.reads l.1.reads) c.2))
        back cause.Depth c (inl t) = elim (issued_tells c.0 x c.1 t) [ inl h ↦ absurd (c.2 h.1) | inr h ↦ h.0 ]
        back cause.Depth c (inr l) = absurd (let m : length (keys a cs) < w.depth = l.3 in let n : w.depth ≤ length (keys a cs) = c.3 in omega arith)

    pub from_child : (c : Cert) (x : Finding) → Issued-here c → ¬ (Mem (keys a cs) c.tbs.subject_key_identifier) → length (keys a cs) < w.depth → Found uris w name a (record { uri = uri; cert = c } ∷ cs) x ↔ FromFile uris w name a cs p uri x
    from_child c x i k l = (λ f. inr (c, i, k, l, f), back)
      where
        back : FromFile uris w name a cs p uri x → Found uris w name a (record { uri = uri; cert = c } ∷ cs) x
        back (inr m) = subst (λ (d : Cert). let e : Link = record { uri = uri; cert = d } in Found uris w name a (e ∷ cs) x) (one_cert_at w uri m.0 c m.1.reads i.reads) m.4
        back (inl t) = elim (issued_tells c x i t) [ inl h ↦ absurd (k h.1) | inr h ↦ absurd (let m : length (keys a cs) < w.depth = l in let n : w.depth ≤ length (keys a cs) = h.2 in omega arith) ]

    -- The accepted chain goes on.
    pub accepted_on : (c : Cert) → Accepted w name a cs → Stands w a cs p → Mem (files ca p.manifest) uri → Issued-here c → ¬ (Mem (keys a cs) c.tbs.subject_key_identifier) → length (keys a cs) < w.depth → Accepted w name a (record { uri = uri; cert = c } ∷ cs)
    accepted_on c acc s m i k l = record {
      descends = (acc.descends, p, s, record { file = record { listed = m; extension = i.extension; reads = i.reads }; child = i.child });
      once = (k, acc.once);
      short = let e = keys_count a cs in omega arith;
    }

-- The walk's variables, as the chain that they stand for.
module _ (wants : Finding → Type 0) (uris : List (List ℕ)) (w : World) (name : List ℕ) (a : Link) (cs : List Link) (path : PathValue) (on : List (List ℕ)) (uri : List ℕ) (ca : Cert) (sets : Resources) (st : Stand name a cs path on uri ca sets) where
  stands_here : (p : Point) → StandsIn w (InSet sets) ca p → Stands w a cs p
  stands_here p s = stands_to (InSet sets) (Holds a cs) (λ k n. (st.holds k n).0) w (last_of a cs).cert p (subst (λ (l : Cert). StandsIn w (InSet sets) l p) st.ca_is s)

  stands_there : (p : Point) → Stands w a cs p → StandsIn w (InSet sets) ca p
  stands_there p s = subst (λ (l : Cert). StandsIn w (InSet sets) l p) (sym st.ca_is) (stands_to (Holds a cs) (InSet sets) (λ k n. (st.holds k n).1) w (last_of a cs).cert p s)

  abbrev told_path : PathValue
  told_path = record { locator = name; chain = places a cs }

  path_is_told : path ≡ told_path
  path_is_told = λ i. record { locator = st.name_is i; chain = st.path_is i }

  -- What the chain reaches by the walk's variables.
  abbrev Reached : Finding → Type 0
  Reached x = ReachedBy uris w (InSet sets) on path uri ca x

  reached_here : (x : Finding) → Reached x ↔ ReachedBy uris w (Holds a cs) (keys a cs) told_path (last_of a cs).uri (last_of a cs).cert x
  reached_here x =
      let own : Reached x ↔ ReachedBy uris w (Holds a cs) on path uri ca x = (
        reached_to uris w (InSet sets) (Holds a cs) on path uri ca st.holds x,
        reached_to uris w (Holds a cs) (InSet sets) on path uri ca (λ k n. ((st.holds k n).1, (st.holds k n).0)) x,
      ) in
      let by_keys = subst (λ (k : List (List ℕ)). Reached x ↔ ReachedBy uris w (Holds a cs) k path uri ca x) st.on_is own in
      let by_path = subst (λ (v : PathValue). Reached x ↔ ReachedBy uris w (Holds a cs) (keys a cs) v uri ca x) path_is_told by_keys in
      let by_uri = subst (λ (u : List ℕ). Reached x ↔ ReachedBy uris w (Holds a cs) (keys a cs) told_path u ca x) st.uri_is by_path in
      subst (λ (l : Cert). Reached x ↔ ReachedBy uris w (Holds a cs) (keys a cs) told_path (last_of a cs).uri l x) st.ca_is by_uri

  pub none_here : Accepted w name a cs → ((p : Point) → ¬ (StandsIn w (InSet sets) ca p)) → (old mid new : Finding → Type 0) → Gains wants old (ReachedBy uris w (InSet sets) on path uri ca) mid → Gains wants mid (λ x. Refuses uri cause.Point ≡ x) new → Gains wants old (Found uris w name a cs) new
  none_here acc n old mid new g h =
      gains_more wants old mid new (ReachedBy uris w (InSet sets) on path uri ca) (λ x. Refuses uri cause.Point ≡ x) (Found uris w name a cs) g h (λ x.
      let f = found_at_none uris w name a cs acc (λ p s. n p (stands_there p s)) x in
      let r = reached_here x in
      let e : (Refuses uri cause.Point ≡ x) ↔ (Refuses (last_of a cs).uri cause.Point ≡ x) = subst (λ (u : List ℕ). (Refuses uri cause.Point ≡ x) ↔ (Refuses u cause.Point ≡ x)) st.uri_is (λ q. q, λ q. q) in (
        λ q. elim (f.1 q) [ inl y ↦ inl (r.1 y) | inr y ↦ inr (e.1 y) ],
        λ q. f.0 (elim q [ inl y ↦ inl (r.0 y) | inr y ↦ inr (e.0 y) ]),
      ))

  pub all_here : (p : Point) → Accepted w name a cs → StandsIn w (InSet sets) ca p → (x : Finding) → (ReachedBy uris w (InSet sets) on path uri ca x ⊎ ((u : List ℕ) × Mem (files ca p.manifest) u × FromFile uris w name a cs p u x)) ↔ Found uris w name a cs x
  all_here p acc s x =
      let f = subst (λ (l : Cert). (ReachedBy uris w (Holds a cs) (keys a cs) told_path (last_of a cs).uri (last_of a cs).cert x ⊎ ((u : List ℕ) × Mem (files l p.manifest) u × FromFile uris w name a cs p u x)) ↔ Found uris w name a cs x) (sym st.ca_is) (found_at_point uris w name a cs p acc (stands_here p s) x) in
      let r = reached_here x in (
        λ q. f.0 (elim q [ inl y ↦ inl (r.0 y) | inr y ↦ inr y ]),
        λ q. elim (f.1 q) [ inl y ↦ inl (r.1 y) | inr y ↦ inr y ],
      )

  module _ (p : Point) (file : List ℕ) where
    issued_here : (c : Cert) → IsIssued w (InSet sets) ca p file c → IsIssued w (Holds a cs) (last_of a cs).cert p file c
    issued_here c i = issued_to (InSet sets) (Holds a cs) (λ k n. (st.holds k n).0) w (last_of a cs).cert p file c (subst (λ (l : Cert). IsIssued w (InSet sets) l p file c) st.ca_is i)

    pub gains_ignored : (old : Finding → Type 0) → IsIgnored w file → Gains wants old (FromFile uris w name a cs p file) old
    gains_ignored old d = gains_none wants old (FromFile uris w name a cs p file) (λ x f. from_nothing uris w name a cs p file x d f)

    pub gains_refused : (why : Cause) (old new : Finding → Type 0) → Gains wants old (λ x. Refuses file why ≡ x) new → IsFileRefused w (InSet sets) on (length on) ca p file why → Gains wants old (FromFile uris w name a cs p file) new
    gains_refused why old new g r =
        let r1 : IsFileRefused w (InSet sets) on (length on) (last_of a cs).cert p file why = subst (λ (l : Cert). IsFileRefused w (InSet sets) on (length on) l p file why) st.ca_is r in
        let r2 : IsFileRefused w (InSet sets) (keys a cs) (length (keys a cs)) (last_of a cs).cert p file why = subst (λ (k : List (List ℕ)). IsFileRefused w (InSet sets) k (length k) (last_of a cs).cert p file why) st.on_is r1 in
        let r3 = refused_to (InSet sets) (Holds a cs) st.holds w (keys a cs) (length (keys a cs)) (last_of a cs).cert p file why r2 in
        gains_same wants old new (λ x. Refuses file why ≡ x) (FromFile uris w name a cs p file) g (λ x. from_refused uris w name a cs p file why x r3)

    pub gains_good : (x : Payload) (old new : Finding → Type 0) → Gains wants old (ShownBy (record { locator = path.locator; chain = path.chain; object = file }) x) new → IsGood w (InSet sets) ca p file x → Gains wants old (FromFile uris w name a cs p file) new
    gains_good x old new g q =
        let q1 = good_to (InSet sets) (Holds a cs) (λ k n. (st.holds k n).0) w (last_of a cs).cert p file x (subst (λ (l : Cert). IsGood w (InSet sets) l p file x) st.ca_is q) in
        let t : WitnessValue = record { locator = path.locator; chain = path.chain; object = file } in
        let e : t ≡ record { locator = name; chain = places a cs; object = file } = λ i. record { locator = st.name_is i; chain = st.path_is i; object = file } in
        let g1 = subst (λ (u : WitnessValue). Gains wants old (ShownBy u x) new) e g in
        gains_same wants old new (ShownBy (record { locator = name; chain = places a cs; object = file }) x) (FromFile uris w name a cs p file) g1 (λ y. from_attests uris w name a cs p file x y q1)

    pub gains_child : (c : Cert) (csets : Resources) (longer : PathValue) (more : List (List ℕ)) (old new : Finding → Type 0) → Accepted w name a cs → StandsIn w (InSet sets) ca p → Mem (files ca p.manifest) file → IsIssued w (InSet sets) ca p file c → ¬ (Mem on c.tbs.subject_key_identifier) → length on < w.depth → HasKept (InSet sets) c csets → longer ≡ record { locator = path.locator; chain = path.chain ++ file ∷ [] } → more ≡ c.tbs.subject_key_identifier ∷ on → Walks wants uris w longer more file c csets old new → Gains wants old (FromFile uris w name a cs p file) new
    gains_child c csets longer more old new acc s m i k l h el em walked =
        let i1 = issued_here c i in
        let k1 : ¬ (Mem (keys a cs) c.tbs.subject_key_identifier) = subst (λ (o : List (List ℕ)). ¬ (Mem o c.tbs.subject_key_identifier)) st.on_is k in
        let l1 : length (keys a cs) < w.depth = subst (λ (o : List (List ℕ)). length o < w.depth) st.on_is l in
        let m1 = subst (λ (q : Cert). Mem (files q p.manifest) file) st.ca_is m in
        let link : Link = record { uri = file; cert = c } in
        let held : (kind : Kind) (n : ℕ) → InSet csets kind n ↔ Holds a (link ∷ cs) kind n = λ kind n. let q = (h kind).same n in let e = st.holds kind n in (
          λ z. let y = q.0 z in (y.0, e.0 y.1),
          λ z. q.1 (z.0, e.1 z.1),
        ) in
        let stand : Stand name a (link ∷ cs) longer more file c csets = record { name_is = ap (λ (v : PathValue). v.locator) el ∙ st.name_is; path_is = ap (λ (v : PathValue). v.chain) el ∙ ap (λ (v : List (List ℕ)). v ++ file ∷ []) st.path_is; on_is = em ∙ ap (λ (v : List (List ℕ)). c.tbs.subject_key_identifier ∷ v) st.on_is; uri_is = refl; ca_is = refl; holds = held } in
        gains_same wants old new (Found uris w name a (link ∷ cs)) (FromFile uris w name a cs p file) (walked name a (link ∷ cs) stand (accepted_on uris w name a cs p file c acc (stands_here p s) m1 i1 k1 l1)) (λ x. from_child uris w name a cs p file c x i1 k1 l1)

pub read_none : {P : Type 0} (point : P → Point) (w : World) (held : Kind → ℕ → Type 0) (ca : Cert) (o : Option P) → ((x : P) → ¬ (o ≡ Some x)) → IsRead point w held ca o → (p : Point) → ¬ (StandsIn w held ca p)
read_none point w held ca None n r = r
read_none point w held ca (Some x) n r = absurd (n x refl)

pub read_some : {P : Type 0} (point : P → Point) (w : World) (held : Kind → ℕ → Type 0) (ca : Cert) (o : Option P) (x : P) → o ≡ Some x → IsRead point w held ca o → StandsIn w held ca (point x)
read_some {P = P} point w held ca o x e r = subst (λ (y : Option P). IsRead point w held ca y) e r

-- What is done with a file, and what the walk gains by it. The point that was read is the one that stands.
module _ {A P : Type 0} (cert : A → Cert) (sets : A → Resources) (payload : P → Payload) (wants : Finding → Type 0) (uris : List (List ℕ)) (w w' : World) (same : w' ≡ w) (name : List ℕ) (a : Link) (cs : List Link) (path : PathValue) (on : List (List ℕ)) (uri : List ℕ) (ca : Cert) (csets : Resources) (st : Stand name a cs path on uri ca csets) (acc : Accepted w name a cs) (p p0 : Point) (s : StandsIn w (InSet csets) ca p) (s0 : StandsIn w (InSet csets) ca p0) (file : List ℕ) (o : Outcome A P) (cl : Classified cert sets payload w' (InSet csets) ca p0 on file o) where
  p_is : p0 ≡ p
  p_is = one_point w ca p0 p s0.point s.point

  class_at : (q : Outcome A P) → o ≡ q → Classified cert sets payload w (InSet csets) ca p on file q
  class_at q e =
      let c1 = subst (λ (v : World). Classified cert sets payload v (InSet csets) ca p0 on file o) same cl in
      let c2 = subst (λ (z : Point). Classified cert sets payload w (InSet csets) ca z on file o) p_is c1 in
      subst (λ (r : Outcome A P). Classified cert sets payload w (InSet csets) ca p on file r) e c2

  pub arm_nothing : o ≡ Does.Nothing → (old : Finding → Type 0) → Gains wants old (FromFile uris w name a cs p file) old
  arm_nothing e old = gains_ignored wants uris w name a cs path on uri ca csets st p file old (class_at Does.Nothing e)

  pub arm_refused : (why : Cause) → o ≡ Does.Refused why → (old new : Finding → Type 0) → Gains wants old (λ x. Refuses file why ≡ x) new → Gains wants old (FromFile uris w name a cs p file) new
  arm_refused why e old new g = gains_refused wants uris w name a cs path on uri ca csets st p file why old new g (class_at (Does.Refused why) e)

  pub arm_attests : (x : P) → o ≡ Does.Attests x → (old new : Finding → Type 0) → Gains wants old (ShownBy (record { locator = path.locator; chain = path.chain; object = file }) (payload x)) new → Gains wants old (FromFile uris w name a cs p file) new
  arm_attests x e old new g = gains_good wants uris w name a cs path on uri ca csets st p file (payload x) old new g (class_at (Does.Attests x) e)

  pub arm_child : (c : A) (key : List ℕ) → o ≡ Does.Child c key → Mem (files ca p0.manifest) file → (longer : PathValue) (more : List (List ℕ)) → longer ≡ record { locator = path.locator; chain = path.chain ++ file ∷ [] } → more ≡ key ∷ on → (v : World) → v ≡ w → (old new : Finding → Type 0) → Walks wants uris v longer more file (cert c) (sets c) old new → Gains wants old (FromFile uris w name a cs p file) new
  arm_child c key e m longer more el em v ev old new walked =
      let q = class_at (Does.Child c key) e in
      let k = q.1 in
      let m1 = subst (λ (z : Point). Mem (files ca z.manifest) file) p_is m in
      let on1 : ¬ (Mem on (cert c).tbs.subject_key_identifier) = subst (λ (z : List ℕ). ¬ (Mem on z)) k q.2 in
      let em1 : more ≡ (cert c).tbs.subject_key_identifier ∷ on = em ∙ ap (λ (z : List ℕ). z ∷ on) k in
      let w1 = subst (λ (z : World). Walks wants uris z longer more file (cert c) (sets c) old new) ev walked in
      gains_child wants uris w name a cs path on uri ca csets st p file (cert c) (sets c) longer more old new acc s m1 q.0 on1 q.3 q.4 el em1 w1

-- What is done with a file by what it is, is what is said of it.
class_of : {A P : Type 0} (cert : A → Cert) (sets : A → Resources) (payload : P → Payload) (w : World) (held : Kind → ℕ → Type 0) (ca : Cert) (p : Point) (on : List (List ℕ)) (uri : List ℕ) (kind : FileKind A P) → IsFileKind cert sets payload w held ca p uri kind → (o : Outcome A P) → ComesOf cert w.depth on kind o → Classified cert sets payload w held ca p on uri o
class_of {A = A} {P = P} cert sets payload w held ca p on uri kind read o comes = said kind read comes
  where
    at : (q : Outcome A P) → o ≡ q → Classified cert sets payload w held ca p on uri q → Classified cert sets payload w held ca p on uri o
    at q e c = subst (λ (z : Outcome A P). Classified cert sets payload w held ca p on uri z) (sym e) c

    said : (k : FileKind A P) → IsFileKind cert sets payload w held ca p uri k → ComesOf cert w.depth on k o → Classified cert sets payload w held ca p on uri o
    said Is.Nothing r e = at Does.Nothing e r
    said Is.Bad r e = at (Does.Refused cause.Object) e r
    said (Is.Attests x) r e = at (Does.Attests x) e r
    said (Is.Child a) r (inl l) = at (Does.Refused cause.Loop) l.1 (cert a, r.0, l.0)
    said (Is.Child a) r (inr n) = elim n.1 [
      | inl d ↦ at (Does.Refused cause.Depth) d.1 (cert a, r.0, n.0, d.0)
      | inr d ↦ at (Does.Child a (cert a).tbs.subject_key_identifier) d.1 (r.0, refl, n.0, d.0, r.1)
    ]

-- The same of a file that was read in one world and is looked at in another, which is the same.
pub class_read : {A P E : Type 0} (cert : A → Cert) (sets : A → Resources) (payload : P → Payload) (w w' : World) → w' ≡ w → (held : Kind → ℕ → Type 0) (ca : Cert) (p : Point) (on : List (List ℕ)) (uri : List ℕ) (kind : FileKind A P) → IsFileKind cert sets payload w held ca p uri kind → (r : Result (Outcome A P) E) → IfOk r (ComesOf cert w'.depth on kind) → IfOk r (Classified cert sets payload w held ca p on uri)
class_read cert sets payload w w' same held ca p on uri kind read r comes =
    let moved = subst (λ (v : World). IfOk r (ComesOf cert v.depth on kind)) same comes in
    IfOk-weaker r (ComesOf cert w.depth on kind) (Classified cert sets payload w held ca p on uri) (class_of cert sets payload w held ca p on uri kind read) moved
