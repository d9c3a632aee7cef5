-- What locators tell.
use Rattle.std.proofs.Common.{◌≡◌, ℕ, ◌≤◌, ◌⊎◌, ◌↔◌, List, [], ◌∷◌, map, Some, None, Result, Ok, Err, OnOk, refl, sym, ap, subst, ◌∙◌, inl, inr, arith}
use Rattle.rpki_walk.specs.resources.Resources.{Resources}
use Rattle.rpki_walk.specs.rpki_bundle.declared.parts.Locator.{Locator}
use Rattle.rpki_rules.specs.Certs.{Key, Cert, CertText, one_cert}
use Rattle.rpki_rules.specs.Locators.{LocatorText, https_first}
use Rattle.rpki_walk.proofs.of_objects_payload.Locators.{one_locator}
use Rattle.rpki_rules.specs.declared.cause.Cause.TheVariants as cause
use Rattle.rpki_rules.specs.Words.{Mem, NoRepeat}
use Rattle.rpki_rules.specs.Kinds.{Kind, InSet}
use Rattle.rpki_rules.specs.World.{World}
use Rattle.rpki_rules.specs.Points.{Link, IsFirstHeld, Anchor}
use Rattle.rpki_rules.specs.Chains.{Holds, IsFront, Accepted}
use Rattle.rpki_rules.specs.Views.{PathValue}
use Rattle.rpki_rules.proofs.Orders.{mem_map}
use Rattle.rpki_walk.specs.declared.repository.AnchorLookup.{AnchorLookup}
use Rattle.rpki_walk.specs.declared.repository.AnchorLookup.TheVariants as To
use Rattle.rpki_walk.specs.Repository.{LeadsTo, HasListed, IsAnchorLookup}
use Rattle.rpki_walk.specs.Facts.{Finding, Refuses, Tells, Found, Stand, FromLocator, IsFinding, Gains, Walks}
use Rattle.rpki_walk.proofs.Mems.{gains_same}
use Rattle.rpki_rules.proofs.Fronts.{accepted_front}

-- The first that is held is one.
one_held : (w : World) (us : List (List ℕ)) (u v o p : List ℕ) → IsFirstHeld w us u o → IsFirstHeld w us v p → (u ≡ v) × (o ≡ p)
one_held w [] u v o p h k = absurd h
one_held w (x ∷ us) u v o p (inl h) (inl k) = let e : Some o ≡ Some p = sym h.1 ∙ k.1 in (sym h.0 ∙ k.0, cc)
one_held w (x ∷ us) u v o p (inl h) (inr k) = let e : Some o ≡ None = sym h.1 ∙ k.0 in absurd cc
one_held w (x ∷ us) u v o p (inr h) (inl k) = let e : Some p ≡ None = sym k.1 ∙ h.0 in absurd cc
one_held w (x ∷ us) u v o p (inr h) (inr k) = one_held w us u v o p h.1 k.1

-- A locator leads to one anchor.
pub one_lead : (w : World) (l : Locator) (a b : Link) → LeadsTo w l a → LeadsTo w l b → a ≡ b
one_lead w l a b h k =
    let r = one_locator l.text h.uris k.uris h.key k.key h.reads k.reads in
    let o = one_held w (https_first k.uris) a.uri b.uri h.octets k.octets (subst (λ (us : List (List ℕ)). IsFirstHeld w (https_first us) a.uri h.octets) r.0 h.held) k.held in
    let c = one_cert k.octets a.cert b.cert (subst (λ (x : List ℕ). CertText x a.cert) o.1 h.cert) k.cert in
    let p = o.0 in
    λ i. record { uri = p i; cert = c i }

pub anchor_of : (w : World) (l : Locator) (a : Link) → Mem w.locators l → LeadsTo w l a → Anchor w l.name a
anchor_of w l a m h = record { locator = l; in_list = m; named = refl; uris = h.uris; key = h.key; reads = h.reads; octets = h.octets; held = h.held; cert = h.cert; is_anchor = h.is_anchor }

pub lead_of : (w : World) (name : List ℕ) (a : Link) (h : Anchor w name a) → LeadsTo w h.locator a
lead_of w name a h = record { uris = h.uris; key = h.key; reads = h.reads; octets = h.octets; held = h.held; cert = h.cert; is_anchor = h.is_anchor }

-- Locators that differ by name are told apart by it.
one_name : (ls : List Locator) (l m : Locator) → NoRepeat (map (λ (x : Locator). x.name) ls) → Mem ls l → Mem ls m → l.name ≡ m.name → l ≡ m
one_name [] l m n a b e = absurd a
one_name (x ∷ ls) l m n (inl a) (inl b) e = sym a ∙ b
one_name (x ∷ ls) l m n (inl a) (inr b) e = absurd (n.0 ((mem_map (λ (x : Locator). x.name) ls x.name).1 (m, b, sym e ∙ ap (λ (x : Locator). x.name) (sym a))))
one_name (x ∷ ls) l m n (inr a) (inl b) e = absurd (n.0 ((mem_map (λ (x : Locator). x.name) ls x.name).1 (l, a, e ∙ ap (λ (x : Locator). x.name) (sym b))))
one_name (x ∷ ls) l m n (inr a) (inr b) e = one_name ls l m n.1 a b e

pub front_of_all : (cs : List Link) → IsFront [] cs
front_of_all [] = refl
front_of_all (c ∷ cs) = inr (front_of_all cs)

pub anchor_on_top : (w : World) (name : List ℕ) (a : Link) (cs : List Link) → Accepted w name a cs → Anchor w name a
anchor_on_top w name a cs acc = (accepted_front w name a [] cs (front_of_all cs) acc).descends

-- What some locator tells is what is told.
pub told_is : (uris : List (List ℕ)) (w : World) → NoRepeat (map (λ (l : Locator). l.name) w.locators) → (x : Finding) → (⊥ ⊎ ((l : Locator) × Mem w.locators l × FromLocator uris w l x)) ↔ IsFinding uris w x
told_is uris w apart x = (
  λ g. elim g [
    | inl n ↦ absurd n
    | inr h ↦ let l = h.0 in elim h.2 [
      | inl t ↦ inl (l.name, t.0, record { locator = l; in_list = h.1; named = refl; none = t.1 })
      | inr q ↦ elim q [
        | inl t ↦ inr (inl (l.name, t.0, record { locator = l; in_list = h.1; named = refl; uris = t.1; key = t.2; reads = t.3; none = λ a k. t.4 a (subst (λ (m : Locator). LeadsTo w m a) (one_name w.locators k.locator l apart k.in_list h.1 k.named) (lead_of w l.name a k)) }))
        | inr t ↦ let f = t.2 in inr (inr (l.name, t.0, f.chain, f.accepted, f.tells))
      ]
    ]
  ],
  λ g. elim g [
    | inl t ↦ let r = t.2 in inr (r.locator, r.in_list, inl (ap (λ (n : List ℕ). Refuses n cause.Tal) r.named ∙ t.1, r.none))
    | inr h ↦ elim h [
      | inl t ↦ let r = t.2 in inr (r.locator, r.in_list, inr (inl (ap (λ (n : List ℕ). Refuses n cause.Anchor) r.named ∙ t.1, r.uris, r.key, r.reads, λ a k. r.none a (subst (λ (n : List ℕ). Anchor w n a) r.named (anchor_of w r.locator a r.in_list k)))))
      | inr t ↦ let k = anchor_on_top w t.0 t.1 t.2 t.3 in
          inr (k.locator, k.in_list, inr (inr (t.1, lead_of w t.0 t.1 k, record { chain = t.2; front = front_of_all t.2; accepted = subst (λ (n : List ℕ). Accepted w n t.1 t.2) (sym k.named) t.3; tells = subst (λ (n : List ℕ). Tells uris w n t.1 t.2 x) (sym k.named) t.4 })))
    ]
  ],
)

module _ (wants : Finding → Type 0) (uris : List (List ℕ)) (w : World) (l : Locator) where
  -- It is no locator, or leads nowhere.
  pub gains_tal : (old new : Finding → Type 0) → ((us : List (List ℕ)) (key : Key) → ¬ (LocatorText l.text us key)) → Gains wants old (λ x. Refuses l.name cause.Tal ≡ x) new → Gains wants old (FromLocator uris w l) new
  gains_tal old new n g = gains_same wants old new (λ x. Refuses l.name cause.Tal ≡ x) (FromLocator uris w l) g (λ x. (
    λ e. inl (e, n),
    λ f. elim f [ inl t ↦ t.0 | inr q ↦ elim q [ inl t ↦ absurd (n t.1 t.2 t.3) | inr t ↦ let h = t.1 in absurd (n h.uris h.key h.reads) ] ],
  ))

  pub gains_nowhere : (old new : Finding → Type 0) → (((us : List (List ℕ)) × (key : Key) × LocatorText l.text us key) × ((a : Link) → ¬ (LeadsTo w l a))) → Gains wants old (λ x. Refuses l.name cause.Anchor ≡ x) new → Gains wants old (FromLocator uris w l) new
  gains_nowhere old new n g = let r = n.0 in gains_same wants old new (λ x. Refuses l.name cause.Anchor ≡ x) (FromLocator uris w l) g (λ x. (
    λ e. inr (inl (e, r.0, r.1, r.2, n.1)),
    λ f. elim f [ inl t ↦ absurd (t.1 r.0 r.1 r.2) | inr q ↦ elim q [ inl t ↦ t.0 | inr t ↦ absurd (n.1 t.0 t.1) ] ],
  ))

  -- It leads to an anchor, from which the walk goes on.
  pub gains_anchor : (uri : List ℕ) (c : Cert) (sets : Resources) → Mem w.locators l → 1 ≤ w.depth → LeadsTo w l (record { uri = uri; cert = c }) → HasListed c sets → (path : PathValue) (on : List (List ℕ)) → path ≡ record { locator = l.name; chain = uri ∷ [] } → on ≡ c.tbs.subject_key_identifier ∷ [] → (old new : Finding → Type 0) → Walks wants uris w path on uri c sets old new → Gains wants old (FromLocator uris w l) new
  gains_anchor uri c sets m deep h listed path on we oe old new walked =
      let a : Link = record { uri = uri; cert = c } in
      let held : (k : Kind) (n : ℕ) → InSet sets k n ↔ Holds a [] k n = λ k n. (listed k).same n in
      let st : Stand l.name a [] path on uri c sets = record { name_is = ap (λ (v : PathValue). v.locator) we; path_is = ap (λ (v : PathValue). v.chain) we; on_is = oe; uri_is = refl; ca_is = refl; holds = held } in
      let acc : Accepted w l.name a [] = record { descends = anchor_of w l a m h; once = ((λ (q : Mem {X = List ℕ} [] c.tbs.subject_key_identifier). absurd q), tt); short = omega arith } in
      gains_same wants old new (Found uris w l.name a []) (FromLocator uris w l) (walked l.name a [] st acc) (λ x. (
        λ f. inr (inr (a, h, f)),
        λ f. elim f [ inl t ↦ absurd (t.1 h.uris h.key h.reads) | inr q ↦ elim q [ inl t ↦ absurd (t.4 a h) | inr t ↦ subst (λ (b : Link). Found uris w l.name b [] x) (one_lead w l t.0 a t.1 h) t.2 ] ],
      ))

-- What a good end tells follows from what it told.
pub on_ok : {T E P Q : Type 0} (r : Result T E) → (P → Q) → OnOk r P → OnOk r Q
on_ok (Ok x) f h = f h
on_ok (Err e) f h = tt

-- What holds anyway.
pub at_ok : {T E : Type 0} (r : Result T E) (Q : Type 0) → Q → OnOk r Q
at_ok (Ok x) Q q = q
at_ok (Err e) Q q = tt

-- What the code reads of a locator, and what the walk gains by it.
module _ {A : Type 0} (cert : A → Cert) (sets : A → Resources) (wants : Finding → Type 0) (uris : List (List ℕ)) (w : World) (l : Locator) (o : AnchorLookup A) (led : IsAnchorLookup cert sets w l o) where
  led_at : (p : AnchorLookup A) → o ≡ p → IsAnchorLookup cert sets w l p
  led_at p e = subst (λ (q : AnchorLookup A). IsAnchorLookup cert sets w l q) e led

  pub arm_tal : o ≡ To.Unreadable → (name : List ℕ) → name ≡ l.name → (old new : Finding → Type 0) → Gains wants old (λ x. Refuses name cause.Tal ≡ x) new → Gains wants old (FromLocator uris w l) new
  arm_tal e name n old new g = gains_tal wants uris w l old new (led_at To.Unreadable e) (subst (λ (m : List ℕ). Gains wants old (λ x. Refuses m cause.Tal ≡ x) new) n g)

  pub arm_nowhere : o ≡ To.Nowhere → (name : List ℕ) → name ≡ l.name → (old new : Finding → Type 0) → Gains wants old (λ x. Refuses name cause.Anchor ≡ x) new → Gains wants old (FromLocator uris w l) new
  arm_nowhere e name n old new g = gains_nowhere wants uris w l old new (led_at To.Nowhere e) (subst (λ (m : List ℕ). Gains wants old (λ x. Refuses m cause.Anchor ≡ x) new) n g)

  pub arm_anchor : (uri : List ℕ) (c : A) → o ≡ To.Anchor uri c → Mem w.locators l → 1 ≤ w.depth → (name : List ℕ) → name ≡ l.name → (v : World) → v ≡ w → (old new : Finding → Type 0) → Walks wants uris v (record { locator = name; chain = uri ∷ [] }) ((cert c).tbs.subject_key_identifier ∷ []) uri (cert c) (sets c) old new → Gains wants old (FromLocator uris w l) new
  arm_anchor uri c e m deep name n v ev old new walked =
      let q = led_at (To.Anchor uri c) e in
      let path : PathValue = record { locator = name; chain = uri ∷ [] } in
      let on = (cert c).tbs.subject_key_identifier ∷ [] in
      gains_anchor wants uris w l uri (cert c) (sets c) m deep q.0 q.1 path on (λ i. record { locator = n i; chain = uri ∷ [] }) refl old new (subst (λ (z : World). Walks wants uris z path on uri (cert c) (sets c) old new) ev walked)
