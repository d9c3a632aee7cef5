-- What a locator leads to, by the first object that is there.
use Rattle.std.proofs.Common.{◌≡◌, ◌<◌, ℕ, List, [], length, get_or, slice_index_or, None, Result, Ok, Err, refl, sym, ap, ◌∙◌, subst}
use Rattle.std.proofs.lemmas.List.{get_or_read}
use Rattle.std.specs.Prelude.{IfOk, String}
use Rattle.std.specs.declared.alloc.Global.{Global}
use Rattle.std.specs.Str.Lossy.{utf8_lossy}
use Rattle.std.specs.String.{string_bytes}
use Rattle.rpki_standing.specs.Lookups.{HoldsAt}
use Rattle.rpki_steps.specs.Anchored.{IsFoundAnchor}
use Rattle.rpki_steps.specs.Holders.{cert_of, sets_of}
use Rattle.rpki_steps.specs.certs_basics.Lists.{FirstFailing}
use Rattle.rpki_steps.specs.certs_verify.Holders.{ResourceCertValue}
use Rattle.rpki_steps.specs.declared.anchor.locator.TrustAnchor.{TrustAnchor}
use Rattle.rpki_standing.specs.rpki_bundle.declared.parts.Locator.{Locator}
use Rattle.rpki_standing.specs.objects_payload.declared.locator.error.ReadError.{ReadError}
use Rattle.rpki_rules.specs.Certs.{Cert, CertText, Key}
use Rattle.rpki_rules.specs.declared.reason.locators.LocatorReason.TheVariants.{BadText, NoneHeld, NoCert, BadAnchor}
use Rattle.rpki_rules.specs.LocatorReasons.{LocatorFails, LeadsTo as LeadsToOctets, PassesAnchor, tests_of_anchors}
use Rattle.rpki_rules.specs.declared.reason.locators.AnchorTest.{AnchorTest}
use Rattle.rpki_rules.specs.declared.reason.locators.LocatorReason.{LocatorReason}
use Rattle.rpki_rules.specs.Points.{IsAnchorCert}
use Rattle.rpki_rules.specs.TestLaws.{LeadsNowhere, RefusesLocator}
use Rattle.rpki_rules.specs.World.{World}
use Rattle.rpki_walk.specs.Asked.{HasLocatorReason}
use Rattle.rpki_walk.specs.Repository.{HasListed, IsAnchorLookup, LeadsTo}
use Rattle.rpki_walk.specs.declared.repository.AnchorLookup.TheVariants as To
use Rattle.rpki_steps.specs.Anchors.{FindsAnchorIn, IsAnchorIn, IsFoundThere, JudgesLocator}

module _ (w : World) (key : Key) (tal : String Global) (octets : List ℕ) (c : Cert) (t : CertText octets c) where
  -- The octets are this certificate, which is a trust anchor's.
  pub anchor_read : (r : ResourceCertValue) → IsFoundAnchor w key tal c r → FindsAnchorIn w key tal octets (Ok r)
  anchor_read r f = record {
    reads = subst (λ (x : Cert). CertText octets x) (sym f.same) t;
    anchor = subst (λ (x : Cert). IsAnchorCert w key x) (sym f.same) f.anchor;
    holds = subst (λ (x : Cert). HasListed x (sets_of r)) (sym f.same) f.holds;
    name = f.name;
  }

  -- It isn't.
  pub anchor_fails : (test : AnchorTest) → FirstFailing (PassesAnchor w key c) tests_of_anchors test → FindsAnchorIn w key tal octets (Err (BadAnchor test))
  anchor_fails test f = (c, t, f)

module _ (w : World) (l : Locator) where
  module _ (k : Key) (tal : String Global) (u o : List ℕ) (h : HoldsAt w l k u o) where
    lead : LeadsToOctets w l k o
    lead = record { uris = h.uris; reads = h.reads; uri = u; held = h.held }

    -- The object is no trust anchor's certificate.
    pub no_anchor : (r : LocatorReason) → FindsAnchorIn w k tal o (Err r) → JudgesLocator w l (Err r)
    no_anchor (BadText e) f = absurd f
    no_anchor NoneHeld f = absurd f
    no_anchor NoCert f = (k, o, lead, f)
    no_anchor (BadAnchor t) f = (k, o, f.0, lead, f.1, f.2)

    -- The object is one.
    pub is_anchor : (a : TrustAnchor) (r : ResourceCertValue) → a.uri ≡ u → a.authority ≡ r → string_bytes tal ≡ utf8_lossy l.name → IsAnchorIn w k tal o r → IsFoundThere w l a
    is_anchor a r e same called f = record {
      leads = subst (λ (v : List ℕ). LeadsTo w l (record { uri = v; cert = cert_of a.authority })) (sym e)
          (subst (λ (x : ResourceCertValue). LeadsTo w l (record { uri = u; cert = cert_of x })) (sym same)
          (record { uris = h.uris; key = k; reads = h.reads; octets = o; held = h.held; cert = f.reads; is_anchor = f.anchor }));
      holds = subst (λ (x : ResourceCertValue). HasListed (cert_of x) (sets_of x)) (sym same) f.holds;
      name = ap (λ (x : ResourceCertValue). string_bytes x.tal) same ∙ (ap string_bytes f.name ∙ called);
    }

  -- It leads to the object.
  pub held_led : {E : Type 0} (k : Key) (u o : List ℕ) (r : Result (Result TrustAnchor LocatorReason) E) → HoldsAt w l k u o → IfOk r (λ judged. HoldsAt w l k u o → JudgesLocator w l judged) → IfOk r (JudgesLocator w l)
  held_led k u o (Ok judged) h f = f h
  held_led k u o (Err e) h f = tt

  -- What the walk is told.
  pub found_led : (a : TrustAnchor) → IsFoundThere w l a → IsAnchorLookup cert_of sets_of w l (To.Anchor a.uri a.authority)
  found_led a f = (f.leads, f.holds)

  nowhere_led : LeadsNowhere w l → IsAnchorLookup cert_of sets_of w l To.Nowhere
  nowhere_led n = (n.0, λ a h. n.1 h.uris h.key a.uri h.octets a.cert h.reads h.held h.cert h.is_anchor)

  pub nowhere : (r : LocatorReason) → ((e : ReadError) → r ≡ BadText e → ⊥) → RefusesLocator w l r → IsAnchorLookup cert_of sets_of w l To.Nowhere
  nowhere (BadText e) n f = absurd (n e refl)
  nowhere NoneHeld n f = nowhere_led f
  nowhere NoCert n f = nowhere_led f
  nowhere (BadAnchor t) n f = nowhere_led f

  -- A locator that leads to a trust anchor has no reason.
  pub no_reason : (refuse : (r : LocatorReason) → LocatorFails w l r → RefusesLocator w l r) (a : TrustAnchor) → IsFoundThere w l a → HasLocatorReason w l None
  no_reason refuse a f r h = refuted r (refuse r h)
    where
      led : LeadsNowhere w l → ⊥
      led n = let g = f.leads in n.1 g.uris g.key a.uri g.octets (cert_of a.authority) g.reads g.held g.cert g.is_anchor

      refuted : (r : LocatorReason) → RefusesLocator w l r → ⊥
      refuted (BadText e) n = n f.leads.uris f.leads.key f.leads.reads
      refuted NoneHeld n = led n
      refuted NoCert n = led n
      refuted (BadAnchor t) n = led n

-- What is said of the locator that was read at a place is said of the one that stands there.
pub placed : {X E : Type 0} (P : Locator → X → Type 0) (all ls : List Locator) (at : ℕ) (l : Locator) (r : Result X E) → ls ≡ all → at < length all → l ≡ get_or ls at l
    → IfOk r (P l) → IfOk r (P (slice_index_or all at (record { name = []; text = [] })))
placed P all ls at l r same inside is h =
    let none : Locator = record { name = []; text = [] } in
    let here : l ≡ get_or all at l = subst (λ (xs : List Locator). l ≡ get_or xs at l) same is in
    subst (λ (x : Locator). IfOk r (P x)) (get_or_read all at l inside here none) h
