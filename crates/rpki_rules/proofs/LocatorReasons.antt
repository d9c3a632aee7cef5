-- A locator that is refused has a reason, and one.
use Rattle.std.proofs.Common.{◌≡◌, ◌⊎◌, ℕ, None, Some, Option, List, [], ◌∷◌, ◌++◌, map, inl, inr, refl, sym, ap, subst, ◌∙◌}
use Rattle.rpki_rules.specs.certs_basics.Lists.{Each, FirstFailing}
use Rattle.rpki_rules.specs.certs_basics.Uris.{lookup_key}
use Rattle.rpki_rules.specs.certs_extension.declared.forms.Role.TheVariants.{Ta}
use Rattle.rpki_rules.specs.certs_extension.Profiles.{tests}
use Rattle.rpki_rules.specs.certs_extension.Verified.{anchor_tests}
use Rattle.rpki_rules.specs.rpki_bundle.declared.parts.Locator.{Locator}
use Rattle.rpki_rules.specs.declared.cause.Cause.{Cause}
use Rattle.rpki_rules.specs.declared.cause.Cause.TheVariants as cause
use Rattle.rpki_rules.specs.Certs.{Key, Cert, CertText, one_cert}
use Rattle.rpki_rules.specs.Locators.{LocatorText, https_first}
use Rattle.objects_payload.specs.declared.locator.error.ReadError.{ReadError}
use Rattle.objects_payload.proofs.Locators.{one_locator}
use Rattle.objects_payload.proofs.Whole.{no_locator, one_fault}
use Rattle.rpki_rules.specs.World.{World, at}
use Rattle.rpki_rules.specs.Points.{Link, IsFirstHeld, IsAnchorCert, Anchor}
use Rattle.rpki_rules.specs.Refused.{AnchorRefused}
use Rattle.rpki_rules.specs.Reasons.{CertTest, Inspection, Verification, PassesCert}
use Rattle.rpki_rules.specs.LocatorReasons.{AnchorTest, AnchorCert, tests_of_anchors, PassesAnchor, LeadsTo, LocatorReason, BadText, NoneHeld, NoCert, BadAnchor, LocatorFails, locator_cause}
use Rattle.rpki_rules.specs.ReasonLaws.{IsLocatorRefused, IsNamedAlone, LocatorsHaveReasons}
use Rattle.rpki_rules.proofs.Verify.{anchor_is_verified}
use Rattle.rpki_rules.proofs.Firsts.{none_fails, one_fails, some_fails, each_split, each_join, each_map, map_each}
use Rattle.rpki_rules.proofs.TextFaults.{has_fault}

-- None of the URIs is held, or a first one is.
abbrev NoneOrFirst : World → List (List ℕ) → Type 0
NoneOrFirst w us = Each (λ u. at w u ≡ None) us ⊎ ((uri : List ℕ) × (octets : List ℕ) × IsFirstHeld w us uri octets)

next_uri : (w : World) (u : List ℕ) (us : List (List ℕ)) (o : Option (List ℕ)) → at w u ≡ o → NoneOrFirst w us → NoneOrFirst w (u ∷ us)
next_uri w u us (Some octets) e rest = inr (lookup_key u, octets, inl (refl, e))
next_uri w u us None e (inl n) = inl (e, n)
next_uri w u us None e (inr h) = inr (h.0, h.1, inr (e, h.2))

first_or_none : (w : World) (us : List (List ℕ)) → NoneOrFirst w us
first_or_none w [] = inl tt
first_or_none w (u ∷ us) = next_uri w u us (at w u) refl (first_or_none w us)

none_held : (w : World) (us : List (List ℕ)) (uri octets : List ℕ) → Each (λ u. at w u ≡ None) us → ¬ (IsFirstHeld w us uri octets)
none_held w [] uri octets n h = h
none_held w (u ∷ us) uri octets n (inl h) = let z : None ≡ Some octets = sym n.0 ∙ h.1 in absurd cc
none_held w (u ∷ us) uri octets n (inr h) = none_held w us uri octets n.1 h.1

one_held : (w : World) (us : List (List ℕ)) (uri uri' o p : List ℕ) → IsFirstHeld w us uri o → IsFirstHeld w us uri' p → o ≡ p
one_held w [] uri uri' o p h k = absurd h
one_held w (u ∷ us) uri uri' o p (inl h) (inl k) = let z : Some o ≡ Some p = sym h.1 ∙ k.1 in cc
one_held w (u ∷ us) uri uri' o p (inl h) (inr k) = let z : Some o ≡ None = sym h.1 ∙ k.0 in absurd cc
one_held w (u ∷ us) uri uri' o p (inr h) (inl k) = let z : Some p ≡ None = sym k.1 ∙ h.0 in absurd cc
one_held w (u ∷ us) uri uri' o p (inr h) (inr k) = one_held w us uri uri' o p h.1 k.1

-- The tests of an anchor's certificate ask together what the rules ask.
pub anchor_passes : (w : World) (key : Key) (c : Cert) → Each (PassesAnchor w key c) tests_of_anchors → IsAnchorCert w key c
anchor_passes w key c all =
    let P : CertTest → Type 0 = PassesCert w Ta c c in
    let forms : List CertTest = map Inspection (tests Ta) in
    let others : List CertTest = map Verification anchor_tests in
    let parts = each_split P forms others (each_map AnchorCert (PassesAnchor w key c) (forms ++ others) all.1) in
    (anchor_is_verified w key c).1 (each_map Inspection P (tests Ta) parts.0, each_map Verification P anchor_tests parts.1, all.0)

pub passes_anchor : (w : World) (key : Key) (c : Cert) → IsAnchorCert w key c → Each (PassesAnchor w key c) tests_of_anchors
passes_anchor w key c i =
    let P : CertTest → Type 0 = PassesCert w Ta c c in
    let forms : List CertTest = map Inspection (tests Ta) in
    let others : List CertTest = map Verification anchor_tests in
    let v = (anchor_is_verified w key c).0 i in
    (v.2, map_each AnchorCert (PassesAnchor w key c) (forms ++ others) (each_join P forms others (map_each Inspection P (tests Ta) v.0) (map_each Verification P anchor_tests v.1)))

module _ (w : World) (l : Locator) where
  same_lead : (k k' : Key) (o o' : List ℕ) → LeadsTo w l k o → LeadsTo w l k' o' → (k ≡ k') × (o ≡ o')
  same_lead k k' o o' h j =
      let e = one_locator l.text h.uris j.uris k k' h.reads j.reads in
      (e.1, one_held w (https_first j.uris) h.uri j.uri o o' (subst (λ (us : List (List ℕ)). IsFirstHeld w (https_first us) h.uri o) e.0 h.held) j.held)

  pub nowhere : LocatorFails w l NoneHeld → (k : Key) (o : List ℕ) → ¬ (LeadsTo w l k o)
  nowhere f k o h =
      let e = one_locator l.text h.uris f.0 k f.1 h.reads f.2 in
      none_held w (https_first f.0) h.uri o f.3 (subst (λ (us : List (List ℕ)). IsFirstHeld w (https_first us) h.uri o) e.0 h.held)

  pub unread : LocatorFails w l NoCert → (k : Key) (o : List ℕ) (c : Cert) → LeadsTo w l k o → ¬ (CertText o c)
  unread f k o c h t = f.3 c (subst (λ (v : List ℕ). CertText v c) (same_lead k f.0 o f.1 h f.2).1 t)

  -- What is said of a key and a certificate is said of those to which the locator leads, too.
  pub moved : (Q : Key → Cert → Type 0) (k k' : Key) (o o' : List ℕ) (c c' : Cert) → LeadsTo w l k o → LeadsTo w l k' o' → CertText o c → CertText o' c' → Q k c → Q k' c'
  moved Q k k' o o' c c' h j s t x =
      let e = same_lead k k' o o' h j in
      let d = one_cert o' c c' (subst (λ (v : List ℕ). CertText v c) e.1 s) t in
      subst (λ (y : Cert). Q k' y) d (subst (λ (y : Key). Q y c) e.0 x)

  same_tests : (t u : AnchorTest) → LocatorFails w l (BadAnchor t) → LocatorFails w l (BadAnchor u) → t ≡ u
  same_tests t u f g =
      one_fails (PassesAnchor w g.0 g.2) tests_of_anchors t u
      (moved (λ k c. FirstFailing (PassesAnchor w k c) tests_of_anchors t) f.0 g.0 f.1 g.1 f.2 g.2 f.3 g.3 f.4 g.4 f.5) g.5

  pub no_text : (e : ReadError) → LocatorFails w l (BadText e) → (uris : List (List ℕ)) (key : Key) → ¬ (LocatorText l.text uris key)
  no_text e f uris key t = no_locator e l.text uris key f.0 f.1 t

  pub one_reason : (r s : LocatorReason) → LocatorFails w l r → LocatorFails w l s → r ≡ s
  one_reason (BadText d) (BadText e) f g = ap BadText (one_fault d e l.text f.0 g.0 f.1 g.1)
  one_reason (BadText d) NoneHeld f g = absurd (no_text d f g.0 g.1 g.2)
  one_reason (BadText d) NoCert f g = absurd (no_text d f g.2.uris g.0 g.2.reads)
  one_reason (BadText d) (BadAnchor u) f g = absurd (no_text d f g.3.uris g.0 g.3.reads)
  one_reason NoneHeld (BadText e) f g = absurd (no_text e g f.0 f.1 f.2)
  one_reason NoneHeld NoneHeld f g = refl
  one_reason NoneHeld NoCert f g = absurd (nowhere f g.0 g.1 g.2)
  one_reason NoneHeld (BadAnchor u) f g = absurd (nowhere f g.0 g.1 g.3)
  one_reason NoCert (BadText e) f g = absurd (no_text e g f.2.uris f.0 f.2.reads)
  one_reason NoCert NoneHeld f g = absurd (nowhere g f.0 f.1 f.2)
  one_reason NoCert NoCert f g = refl
  one_reason NoCert (BadAnchor u) f g = absurd (unread f g.0 g.1 g.2 g.3 g.4)
  one_reason (BadAnchor t) (BadText e) f g = absurd (no_text e g f.3.uris f.0 f.3.reads)
  one_reason (BadAnchor t) NoneHeld f g = absurd (nowhere g f.0 f.1 f.3)
  one_reason (BadAnchor t) NoCert f g = absurd (unread g f.0 f.1 f.2 f.3 f.4)
  one_reason (BadAnchor t) (BadAnchor u) f g = ap BadAnchor (same_tests t u f g)

  module _ (n : IsNamedAlone w l) where
    -- An anchor of that name is one to which this locator leads.
    leads : (a : Link) (h : Anchor w l.name a) → LeadsTo w l h.key h.octets
    leads a h =
        let e = n.alone h.locator h.in_list h.named in
        record { uris = h.uris; reads = subst (λ (x : Locator). LocatorText x.text h.uris h.key) e h.reads; uri = a.uri; held = h.held }

    unanchored : (t : AnchorTest) → LocatorFails w l (BadAnchor t) → (a : Link) → ¬ (Anchor w l.name a)
    unanchored t f a h =
        none_fails (PassesAnchor w f.0 f.2) tests_of_anchors t
        (moved (λ k c. Each (PassesAnchor w k c) tests_of_anchors) h.key f.0 h.octets f.1 a.cert f.2 (leads a h) f.3 h.cert f.4 (passes_anchor w h.key a.cert h.is_anchor)) f.5

    -- The text reads, and there is no anchor.
    without : (uris : List (List ℕ)) (key : Key) → LocatorText l.text uris key → ((a : Link) → ¬ (Anchor w l.name a)) → AnchorRefused w l.name
    without uris key t never = record { locator = l; in_list = n.in_list; named = refl; uris = uris; key = key; reads = t; none = never }

    refuses : (r : LocatorReason) → LocatorFails w l r → IsLocatorRefused w l.name (locator_cause r)
    refuses (BadText e) f = inl (refl, record { locator = l; in_list = n.in_list; named = refl; none = no_text e f })
    refuses NoneHeld f = inr (refl, without f.0 f.1 f.2 (λ a h. nowhere f h.key h.octets (leads a h)))
    refuses NoCert f = inr (refl, without f.2.uris f.0 f.2.reads (λ a h. unread f h.key h.octets a.cert (leads a h) h.cert))
    refuses (BadAnchor t) f = inr (refl, without f.3.uris f.0 f.3.reads (unanchored t f))

    -- Of a locator that reads and has no anchor it isn't so that no reason's condition fails.
    has_reason : (uris : List (List ℕ)) (key : Key) → LocatorText l.text uris key → ((a : Link) → ¬ (Anchor w l.name a)) → ¬ ((r : LocatorReason) → locator_cause r ≡ cause.Anchor → ¬ (LocatorFails w l r))
    has_reason uris key t never none = elim (first_or_none w (https_first uris)) [
      | inl away ↦ none NoneHeld refl (uris, key, t, away)
      | inr h ↦ held h.0 h.1 h.2
    ]
      where
        anchored : (uri octets : List ℕ) (c : Cert) → IsFirstHeld w (https_first uris) uri octets → CertText octets c → IsAnchorCert w key c → ⊥
        anchored uri octets c h ct i = never (record { uri = uri; cert = c }) (record { locator = l; in_list = n.in_list; named = refl; uris = uris; key = key; reads = t; octets = octets; held = h; cert = ct; is_anchor = i })

        held : (uri octets : List ℕ) → IsFirstHeld w (https_first uris) uri octets → ⊥
        held uri octets h =
            let lead : LeadsTo w l key octets = record { uris = uris; reads = t; uri = uri; held = h } in
            none NoCert refl (
              key,
              octets,
              lead,
              λ c ct.
                  some_fails (PassesAnchor w key c) tests_of_anchors (λ s f. none (BadAnchor s) refl (key, octets, c, lead, ct, f))
                  (λ all. anchored uri octets c h ct (anchor_passes w key c all)),
            )

    some : (why : Cause) → IsLocatorRefused w l.name why → ¬ ((r : LocatorReason) → locator_cause r ≡ why → ¬ (LocatorFails w l r))
    some why (inl h) none =
        let e = n.alone h.1.locator h.1.in_list h.1.named in
        has_fault l.text (λ d m f. none (BadText d) (sym h.0) (m, f)) (λ uris key t. h.1.none uris key (subst (λ (x : Locator). LocatorText x.text uris key) (sym e) t))
    some why (inr h) none =
        let e = n.alone h.1.locator h.1.in_list h.1.named in
        has_reason h.1.uris h.1.key (subst (λ (x : Locator). LocatorText x.text h.1.uris h.1.key) e h.1.reads) h.1.none
        (λ r q. none r (q ∙ sym h.0))

pub locators_have_reasons : LocatorsHaveReasons
locators_have_reasons w l n = record { refuses = refuses w l n; some = some w l n; one = one_reason w l }
