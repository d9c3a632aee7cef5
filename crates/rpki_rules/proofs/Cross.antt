-- Two worlds that agree but at some URIs: a chain goes over, or some front of it names one of them in both.
use Rattle.std.proofs.Common.{◌≡◌, ℕ, ◌⊎◌, Bool, true, false, List, [], ◌∷◌, Option, Some, None, bytes_eq, if◌then◌else◌, inl, inr, refl, sym, ap, subst, ◌∙◌}
use Rattle.std.specs.Prelude.{filter, not}
use Rattle.std.proofs.lemmas.Slice.Eq.{bytes_eq-Decides}
use Rattle.rpki_rules.specs.resources.Resources.{Resources}
use Rattle.rpki_rules.specs.certs_basics.Uris.{lookup_key}
use Rattle.rpki_rules.specs.Certs.{Cert}
use Rattle.rpki_rules.specs.Objects.{Manifest, ManifestText, one_manifest}
use Rattle.rpki_rules.specs.Locators.{https_first, is_https}
use Rattle.rpki_rules.specs.Words.{Mem}
use Rattle.rpki_rules.specs.Kinds.{Kind, As, InSet}
use Rattle.rpki_rules.specs.World.{World}
use Rattle.rpki_rules.specs.Points.{Link, IsFirstHeld, Anchor, Point, files, IsPoint}
use Rattle.rpki_rules.specs.Chains.{last_of, IsFront, Holds, Accepted}
use Rattle.rpki_rules.specs.Attests.{Origin, Provision, Payload, WitnessValue, Good, HoldsWith, AttestsOrigin, AttestsProvision}
use Rattle.rpki_rules.specs.Refused.{LocatorRefused, AnchorRefused}
use Rattle.rpki_rules.specs.Reach.{IsOneOf, Names, NamesOne, AgreeBut, SomeLocatorNames, IsOriginInside, IsCustomerInside}
use Rattle.rpki_rules.specs.Laws.{NonInterference, LocatorsStay}
use Rattle.rpki_rules.proofs.Fronts.{front_itself, accepted_up}
use Rattle.rpki_rules.proofs.Lists.{holds_front}
use Rattle.rpki_rules.proofs.Orders.{mem_append}
use Rattle.rpki_rules.proofs.Covered.{origin_covered, customer_covered}
use Rattle.rpki_rules.proofs.Moved.{turned, SameAt, names_file, anchor_moved, point_moved, issues_moved, good_moved}

pub octets_dec : (a b : List ℕ) → (a ≡ b) ⊎ ¬ (a ≡ b)
octets_dec a b = go (bytes_eq a b) (bytes_eq-Decides a b)
  where
    go : (t : Bool) → ((t ≡ true → a ≡ b) × (a ≡ b → t ≡ true)) → (a ≡ b) ⊎ ¬ (a ≡ b)
    go true d = inl (d.0 refl)
    go false d = inr (λ e. let h : false ≡ true = d.1 e in absurd cc)

-- A lookup key is one of the list's, or not.
pub one_dec : (uris : List (List ℕ)) (key : List ℕ) → IsOneOf uris key ⊎ ¬ (IsOneOf uris key)
one_dec [] key = inr (λ h. h.one)
one_dec (u ∷ us) key = elim (octets_dec (lookup_key u) key) [
  | inl e ↦ inl (record { uri = u; one = inl refl; same = e })
  | inr n ↦ elim (one_dec us key) [
    | inl h ↦ inl (record { uri = h.uri; one = inr h.one; same = h.same })
    | inr m ↦ inr (λ h. elim h.one [
      | inl e ↦ n (ap lookup_key e ∙ h.same)
      | inr k ↦ m (record { uri = h.uri; one = k; same = h.same })
    ])
  ]
]

-- One of the keys is, or none.
pub meet_dec : (uris keys : List (List ℕ)) → ((key : List ℕ) × IsOneOf uris key × Mem keys key) ⊎ ((key : List ℕ) → Mem keys key → ¬ (IsOneOf uris key))
meet_dec uris [] = inr (λ key m. absurd m)
meet_dec uris (k ∷ ks) = elim (one_dec uris k) [
  | inl h ↦ inl (k, h, inl refl)
  | inr n ↦ elim (meet_dec uris ks) [
    | inl m ↦ inl (m.0, m.1, inr m.2)
    | inr m ↦ inr (λ key l h. elim l [ inl e ↦ n (subst (IsOneOf uris) (sym e) h) | inr j ↦ m key j h ])
  ]
]

kept_mem : {X : Type 0} (b : Bool) (y : X) (ys kept : List X) (x : X) → (Mem kept x → Mem ys x) → Mem (if b then y ∷ kept else kept) x → Mem (y ∷ ys) x
kept_mem true y ys kept x to (inl e) = inl e
kept_mem true y ys kept x to (inr k) = inr (to k)
kept_mem false y ys kept x to k = inr (to k)

filter_mem : {X : Type 0} (p : X → Bool) (xs : List X) (x : X) → Mem (filter p xs) x → Mem xs x
filter_mem p [] x m = m
filter_mem p (y ∷ ys) x m = kept_mem (p y) y ys (filter p ys) x (filter_mem p ys x) m

pub https_first_mem : (us : List (List ℕ)) (u : List ℕ) → Mem (https_first us) u → Mem us u
https_first_mem us u m = elim ((mem_append (filter is_https us) (filter (λ uri. not (is_https uri)) us) u).0 m) [
  | inl a ↦ filter_mem is_https us u a
  | inr b ↦ filter_mem (λ uri. not (is_https uri)) us u b
]

-- The world with other objects.
abbrev pub having : World → (List ℕ → Option (List ℕ)) → World
having w f = turned w f w.depth w.good

module _ (uris : List (List ℕ)) (w : World) (f g : List ℕ → Option (List ℕ)) (same : (key : List ℕ) → ¬ (IsOneOf uris key) → g key ≡ f key) where
  -- No locator that reads names one of the URIs; locators are the same in both.
  abbrev pub Apart : Type 0
  Apart = ¬ (SomeLocatorNames uris w)

  first_moved : (us : List (List ℕ)) (uri octets : List ℕ) → ((u : List ℕ) → Mem us u → ¬ (IsOneOf uris (lookup_key u))) → IsFirstHeld (having w f) us uri octets → IsFirstHeld (having w g) us uri octets
  first_moved [] uri octets n h = h
  first_moved (u ∷ us) uri octets n (inl h) = inl (h.0, same (lookup_key u) (n u (inl refl)) ∙ h.1)
  first_moved (u ∷ us) uri octets n (inr h) = inr (same (lookup_key u) (n u (inl refl)) ∙ h.0, first_moved us uri octets (λ v m. n v (inr m)) h.1)

  pub anchor_over : Apart → (name : List ℕ) (a : Link) → Anchor (having w f) name a → Anchor (having w g) name a
  anchor_over apart name a h =
      anchor_moved (having w f) g w.depth w.good (λ k n m s q. q) name a h
      (first_moved (https_first h.uris) a.uri h.octets (λ u m one. apart (record { locator = h.locator; in_list = h.in_list; named = h.uris; key = h.key; reads = h.reads; uri = u; one = https_first_mem h.uris u m; forged = one })) h.held)

  abbrev pub Clear : Cert → Type 0
  Clear ca = ¬ (NamesOne uris (having w f) ca)

  pub same_at : (ca : Cert) → Clear ca → SameAt (having w f) g w.depth w.good (λ k n m s q. q) ca
  same_at ca clear key n = elim (one_dec uris key) [
    | inl h ↦ absurd (clear (record { key = key; one = h; names = n }))
    | inr h ↦ same key h
  ]

  -- Where the manifest is none of the URIs, what it names is named in both.
  names_over : (ca : Cert) → ((m : List ℕ) → ca.tbs.access.manifest ≡ Some m → ¬ (IsOneOf uris (lookup_key m))) → (key : List ℕ) → Names (having w f) ca key → Names (having w g) ca key
  names_over ca n key (inl h) = inl h
  names_over ca n key (inr h) = inr (record { uri = h.uri; uri_is = h.uri_is; octets = h.octets; held = same (lookup_key h.uri) (n h.uri h.uri_is) ∙ h.held; object = h.object; content = h.content; reads = h.reads; listed = h.listed })

  -- An authority that names one of the URIs on one side names one on both.
  pub names_both : (ca : Cert) → NamesOne uris (having w f) ca → NamesOne uris (having w g) ca
  names_both ca h = at_manifest ca.tbs.access.manifest refl
    where
      at_manifest : (o : Option (List ℕ)) → ca.tbs.access.manifest ≡ o → NamesOne uris (having w g) ca
      at_manifest None e = record { key = h.key; one = h.one; names = names_over ca (λ m q. let z : None ≡ Some m = sym e ∙ q in absurd cc) h.key h.names }
      at_manifest (Some m) e = elim (one_dec uris (lookup_key m)) [
        | inl one ↦ record { key = lookup_key m; one = one; names = inl (m, e, refl) }
        | inr n ↦ record { key = h.key; one = h.one; names = names_over ca (λ m' q. let z : Some m ≡ Some m' = sym e ∙ q in let y : m ≡ m' = cc in subst (λ (u : List ℕ). ¬ (IsOneOf uris (lookup_key u))) y n) h.key h.names }
      ]

  -- Some front is accepted in both and names one of the URIs in both.
  pub record Meets (name : List ℕ) (a : Link) (ds : List Link) : Type 0 where
    pub front : List Link
    pub is_front : IsFront front ds
    pub here : Accepted (having w f) name a front
    pub there : Accepted (having w g) name a front
    pub names_here : NamesOne uris (having w f) (last_of a front).cert
    pub names_there : NamesOne uris (having w g) (last_of a front).cert

  below_meet : (name : List ℕ) (a c : Link) (cs : List Link) → Meets name a cs → Meets name a (c ∷ cs)
  below_meet name a c cs m = record { front = m.front; is_front = inr m.is_front; here = m.here; there = m.there; names_here = m.names_here; names_there = m.names_there }

  -- At a point that stands: what it names is the same in both, or it names one of the URIs.
  pub at_point : (name : List ℕ) (a : Link) (cs : List Link) (p : Point) → Accepted (having w f) name a cs → Accepted (having w g) name a cs → IsPoint (having w f) (last_of a cs).cert p → Meets name a cs ⊎ Clear (last_of a cs).cert
  at_point name a cs p h k l =
      let ca = (last_of a cs).cert in
      let m = l.manifest in
      elim (meet_dec uris (lookup_key m.uri ∷ files ca p.manifest)) [
        | inl q ↦ let n : NamesOne uris (having w f) ca = record { key = q.0; one = q.1; names = named q.0 q.2 } in
            inl (record { front = cs; is_front = front_itself cs; here = h; there = k; names_here = n; names_there = names_both ca n })
        | inr q ↦ inr (λ n. q n.key (in_list n.key n.names) n.one)
      ]
    where
      named : (key : List ℕ) → Mem (lookup_key l.manifest.uri ∷ files (last_of a cs).cert p.manifest) key → Names (having w f) (last_of a cs).cert key
      named key (inl e) = inl (l.manifest.uri, l.manifest.uri_is, e)
      named key (inr n) = names_file (having w f) g w.depth w.good (λ k n m s q. q) (last_of a cs).cert p.object p.manifest key l.manifest n

      in_list : (key : List ℕ) → Names (having w f) (last_of a cs).cert key → Mem (lookup_key l.manifest.uri ∷ files (last_of a cs).cert p.manifest) key
      in_list key (inl n) =
          let z : Some l.manifest.uri ≡ Some n.0 = sym l.manifest.uri_is ∙ n.1 in
          let y : l.manifest.uri ≡ n.0 = cc in
          inl (ap lookup_key y ∙ n.2)
      in_list key (inr n) =
          let z : Some l.manifest.uri ≡ Some n.uri = sym l.manifest.uri_is ∙ n.uri_is in
          let y : l.manifest.uri ≡ n.uri = cc in
          let o : Some l.manifest.octets ≡ Some n.octets = sym l.manifest.held ∙ (ap (λ (u : List ℕ). f (lookup_key u)) y ∙ n.held) in
          let x : l.manifest.octets ≡ n.octets = cc in
          let r = one_manifest w.strict n.octets p.object n.object p.manifest n.content (subst (λ (v : List ℕ). ManifestText w.strict v p.object p.manifest) x l.manifest.reads) n.reads in
          inr (subst (λ (c : Manifest). Mem (files (last_of a cs).cert c) key) (sym r.1) n.listed)

  pub crosses : Apart → (name : List ℕ) (a : Link) (ds : List Link) → Accepted (having w f) name a ds → Accepted (having w g) name a ds ⊎ Meets name a ds
  crosses apart name a [] h = inl (record { descends = anchor_over apart name a h.descends; once = h.once; short = h.short })
  crosses apart name a (c ∷ cs) h = elim (crosses apart name a cs (accepted_up (having w f) name a c cs h)) [
    | inr m ↦ inr (below_meet name a c cs m)
    | inl k ↦ let d = h.descends in let ca = (last_of a cs).cert in elim (at_point name a cs d.1 (accepted_up (having w f) name a c cs h) k d.2.point) [
      | inl m ↦ inr (below_meet name a c cs m)
      | inr n ↦ let s = same_at ca n in inl (record {
        descends = (k.descends, d.1, record { point = point_moved (having w f) g w.depth w.good (λ k n m s q. q) ca d.1 s d.2.point; fits = d.2.fits }, issues_moved (having w f) g w.depth w.good (λ k n m s q. q) (Holds a cs) ca d.1 c s d.2.point d.3);
        once = h.once;
        short = h.short;
      })
    ]
  ]

  -- A good object goes over, or some front of its chain meets.
  pub good_over : Apart → (t : WitnessValue) (x : Payload) (h : Good (having w f) t x) → Good (having w g) t x ⊎ Meets t.locator h.anchor h.below
  good_over apart t x h =
      let a = h.anchor in let cs = h.below in let ca = (last_of a cs).cert in
      elim (crosses apart t.locator a cs h.accepted) [
        | inr m ↦ inr m
        | inl k ↦ elim (at_point t.locator a cs h.point h.accepted k h.stands.point) [
          | inl m ↦ inr m
          | inr n ↦ let s = same_at ca n in inl (record {
            anchor = a;
            below = cs;
            places_are = h.places_are;
            accepted = k;
            point = h.point;
            stands = record { point = point_moved (having w f) g w.depth w.good (λ k n m s q. q) ca h.point s h.stands.point; fits = h.stands.fits };
            good = good_moved (having w f) g w.depth w.good (λ k n m s q. q) (Holds a cs) ca h.point t.object x s h.stands.point h.good;
          })
        ]
      ]

  -- What a front holds where both meet lies in the sets.
  abbrev pub MeetsInside : Resources → Type 0
  MeetsInside r = (name : List ℕ) (a : Link) (ds : List Link) (m : Meets name a ds) (k : Kind) (n : ℕ) → Holds a m.front k n → InSet r k n

  pub origin_over : Apart → (r : Resources) → MeetsInside r → (x : Origin) → ¬ (IsOriginInside r x) → AttestsOrigin (having w f) x → AttestsOrigin (having w g) x
  origin_over apart r bound x out h =
      let t = h.witness in let b = h.good in let e = b.good.object.cert in
      elim (good_over apart t h.payload b) [
        | inl k ↦ record { witness = t; payload = h.payload; good = k; one = h.one }
        | inr m ↦ absurd (out (λ n i. bound t.locator b.anchor b.below m x.kind n
            (holds_front b.anchor b.below m.front x.kind n m.is_front (origin_covered (HoldsWith (Holds b.anchor b.below) e) h.payload b.good.covered x h.one n i).1)))
      ]

  pub provision_over : Apart → (r : Resources) → MeetsInside r → (x : Provision) → ¬ (IsCustomerInside r x.customer) → AttestsProvision (having w f) x → AttestsProvision (having w g) x
  provision_over apart r bound x out h =
      let t = h.witness in let b = h.good in let e = b.good.object.cert in
      elim (good_over apart t h.payload b) [
        | inl k ↦ record { witness = t; payload = h.payload; good = k; one = h.one }
        | inr m ↦ absurd (out (bound t.locator b.anchor b.below m As x.customer
            (holds_front b.anchor b.below m.front As x.customer m.is_front (customer_covered (HoldsWith (Holds b.anchor b.below) e) h.payload b.good.covered x h.one).1)))
      ]

  pub none_over : Apart → (name : List ℕ) → LocatorRefused (having w f) name → LocatorRefused (having w g) name
  none_over apart name h = record { locator = h.locator; in_list = h.in_list; named = h.named; none = h.none }

pub others : {uris : List (List ℕ)} {f g : List ℕ → Option (List ℕ)} → ((key : List ℕ) → ¬ (IsOneOf uris key) → g key ≡ f key) → (key : List ℕ) → ¬ (IsOneOf uris key) → f key ≡ g key
others same key n = sym (same key n)

-- The second world is the first with its own objects.
pub is_having : (uris : List (List ℕ)) (w w' : World) → AgreeBut uris w w' → w' ≡ having w w'.object
is_having uris w w' c = λ i. record { moment = c.moment i; depth = c.depth i; strict = c.strict i; locators = c.locators i; object = w'.object; digests = c.digests i; good = c.good i }

pub non_interference : NonInterference
non_interference uris r w w' h =
    let f = w.object in let g = w'.object in let s = h.agree.objects in let e = is_having uris w w' h.agree in
    let reached : (name : List ℕ) (a : Link) (front : List Link) → Accepted w name a front → NamesOne uris w (last_of a front).cert → (k : Kind) (n : ℕ) → Holds a front k n → InSet r k n = λ name a front acc n k i q. h.bounds k i (record { name = name; anchor = a; below = front; accepted = acc; names = n; holds = q }) in (
      λ x out. (
        λ k. subst (λ (u : World). AttestsOrigin u x) (sym e) (origin_over uris w f g s h.no_locator r (λ name a ds m k n q. reached name a m.front m.here m.names_here k n q) x out k),
        λ k. origin_over uris w g f (others s) h.no_locator r (λ name a ds m k n q. reached name a m.front m.there m.names_there k n q) x out (subst (λ (u : World). AttestsOrigin u x) e k),
      ),
      λ x out. (
        λ k. subst (λ (u : World). AttestsProvision u x) (sym e) (provision_over uris w f g s h.no_locator r (λ name a ds m k n q. reached name a m.front m.here m.names_here k n q) x out k),
        λ k. provision_over uris w g f (others s) h.no_locator r (λ name a ds m k n q. reached name a m.front m.there m.names_there k n q) x out (subst (λ (u : World). AttestsProvision u x) e k),
      ),
    )

pub anchor_refused_over : (uris : List (List ℕ)) (w : World) (f g : List ℕ → Option (List ℕ)) → ((key : List ℕ) → ¬ (IsOneOf uris key) → f key ≡ g key) → ¬ (SomeLocatorNames uris w) → (name : List ℕ) → AnchorRefused (having w f) name → AnchorRefused (having w g) name
anchor_refused_over uris w f g back apart name h = record { locator = h.locator; in_list = h.in_list; named = h.named; uris = h.uris; key = h.key; reads = h.reads; none = λ a k. h.none a (anchor_over uris w g f back apart name a k) }

pub locators_stay : LocatorsStay
locators_stay uris w w' agree apart name =
    let f = w.object in let g = w'.object in let s = agree.objects in let e = is_having uris w w' agree in (
      (
        λ k. subst (λ (u : World). LocatorRefused u name) (sym e) (none_over uris w f g s apart name k),
        λ k. none_over uris w g f (others s) apart name (subst (λ (u : World). LocatorRefused u name) e k),
      ),
      (
        λ k. subst (λ (u : World). AnchorRefused u name) (sym e) (anchor_refused_over uris w f g (others s) apart name k),
        λ k. anchor_refused_over uris w g f s apart name (subst (λ (u : World). AnchorRefused u name) e k),
      ),
    )
