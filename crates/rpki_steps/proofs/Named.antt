-- The trust anchors of locators, and of their names.
use Rattle.std.proofs.Common.{◌≡◌, ◌↔◌, ◌∙◌, ℕ, List, [], ◌∷◌, Bool, Bor, Some, map, inl, inr, refl, sym, ap, subst}
use Rattle.std.specs.Prelude.{IsTrue}
use Rattle.rpki_rules.specs.Certs.{Cert, CertText, Key}
use Rattle.rpki_rules.specs.Locators.{https_first}
use Rattle.rpki_rules.specs.Chains.{CertAt}
use Rattle.rpki_rules.specs.Points.{Anchor, IsAnchorCert, IsFirstHeld, Link}
use Rattle.rpki_rules.specs.Words.{Mem, NoRepeat}
use Rattle.rpki_rules.specs.World.{World}
use Rattle.rpki_standing.specs.rpki_bundle.declared.parts.Locator.{Locator}
use Rattle.rpki_standing.specs.rpki_bundle.declared.parts.Object.{Object}
use Rattle.rpki_standing.specs.declared.anchors.lookup.LocatorLookup.{LocatorLookup}
use Rattle.rpki_standing.specs.declared.anchors.lookup.LocatorLookup.TheVariants as To
use Rattle.rpki_standing.specs.objects_payload.declared.locator.error.ReadError.{ReadError}
use Rattle.rpki_rules.specs.declared.reason.locators.LocatorReason.TheVariants.{BadText, NoneHeld}
use Rattle.rpki_rules.specs.LocatorReasons.{LocatorFails}
use Rattle.rpki_standing.specs.Lookups.{HoldsAt, IsLocatorLookup}
use Rattle.rpki_steps.specs.NamedAnchors.{IsAnchorOf}

-- The first that is held is held.
held_there : (w : World) (us : List (List ℕ)) (uri octets : List ℕ) → IsFirstHeld w us uri octets → w.object uri ≡ Some octets
held_there w [] uri octets h = absurd h
held_there w (u ∷ us) uri octets (inl h) = subst (λ (x : List ℕ). w.object x ≡ Some octets) h.0 h.1
held_there w (u ∷ us) uri octets (inr h) = held_there w us uri octets h.1

-- One lookup key has one object.
one_object : (w : World) (uri o p : List ℕ) → w.object uri ≡ Some o → w.object uri ≡ Some p → o ≡ p
one_object w uri o p h k = let e : Some o ≡ Some p = sym h ∙ k in cc

-- What a locator's lead says of a certificate that stands at a lookup key.
pub anchor_by : (w : World) (l : Locator) (key : Key) (there octets uri : List ℕ) (c : Cert) (b : Bool) → HoldsAt w l key there octets → CertAt w uri c
    → ((j k : Key) (u v o p : List ℕ) → HoldsAt w l j u o → HoldsAt w l k v p → j ≡ k) → ((j k : Key) (u v o p : List ℕ) → HoldsAt w l j u o → HoldsAt w l k v p → u ≡ v)
    → (IsTrue b ↔ ((there ≡ uri) × IsAnchorCert w key c)) → IsTrue b ↔ IsAnchorOf w l (record { uri = uri; cert = c })
anchor_by w l key there octets uri c b leads at one_key one_uri h = (
  λ t.
      let is : (there ≡ uri) × IsAnchorCert w key c = h.0 t in
      let here : HoldsAt w l key uri octets = subst (λ (u : List ℕ). HoldsAt w l key u octets) is.0 leads in
      let same : at.octets ≡ octets = one_object w uri at.octets octets at.held (held_there w (https_first here.uris) uri octets here.held) in
      record { key = key; octets = octets; leads = here; cert = subst (λ (o : List ℕ). CertText o c) same at.reads; is_anchor = is.1 },
  λ a. h.1 (
    one_uri key a.key there uri octets a.octets leads a.leads,
    subst (λ (k : Key). IsAnchorCert w k c) (one_key a.key key uri there a.octets octets a.leads leads) a.is_anchor,
  ),
)

-- A locator that leads to no object has no anchor.
pub no_anchor : (w : World) (l : Locator) (lead : LocatorLookup) → ((object : Bor Object) (tal : _) → lead ≡ To.Held object tal → ⊥) → IsLocatorLookup w l lead
    → ((fault : ReadError) (k : Key) (u o : List ℕ) → LocatorFails w l (BadText fault) → ¬ (HoldsAt w l k u o)) → ((k : Key) (u o : List ℕ) → LocatorFails w l NoneHeld → ¬ (HoldsAt w l k u o)) → (a : Link) → ¬ (IsAnchorOf w l a)
no_anchor w l (To.Unreadable fault) other lead unreadable nowhere a h = unreadable fault h.key a.uri h.octets lead h.leads
no_anchor w l To.Nowhere other lead unreadable nowhere a h = nowhere h.key a.uri h.octets lead h.leads
no_anchor w l (To.Held object tal) other lead unreadable nowhere a h = other object tal refl

-- No two locators of one name.
named_among : (ls : List Locator) (l : Locator) → Mem ls l → Mem (map (λ l. l.name) ls) l.name
named_among [] l m = absurd m
named_among (x ∷ ls) l (inl e) = inl (ap (λ (y : Locator). y.name) e)
named_among (x ∷ ls) l (inr m) = inr (named_among ls l m)

one_named : (ls : List Locator) (l k : Locator) → NoRepeat (map (λ l. l.name) ls) → l.name ≡ k.name → Mem ls l → Mem ls k → l ≡ k
one_named [] l k apart e m n = absurd m
one_named (x ∷ ls) l k apart e (inl m) (inl n) = sym m ∙ n
one_named (x ∷ ls) l k apart e (inl m) (inr n) = absurd (apart.0 (subst (λ (y : List ℕ). Mem (map (λ l. l.name) ls) y) (sym e ∙ ap (λ (y : Locator). y.name) (sym m)) (named_among ls k n)))
one_named (x ∷ ls) l k apart e (inr m) (inl n) = absurd (apart.0 (subst (λ (y : List ℕ). Mem (map (λ l. l.name) ls) y) (e ∙ ap (λ (y : Locator). y.name) (sym n)) (named_among ls l m)))
one_named (x ∷ ls) l k apart e (inr m) (inr n) = one_named ls l k apart.1 e m n

-- The anchor of the locator of a name is the name's.
module _ (w : World) (l : Locator) (name : List ℕ) (a : Link) (m : Mem w.locators l) (e : l.name ≡ name) (apart : NoRepeat (map (λ l. l.name) w.locators)) where
  is_named : IsAnchorOf w l a → Anchor w name a
  is_named h = record {
    locator = l;
    in_list = m;
    named = e;
    uris = h.leads.uris;
    key = h.key;
    reads = h.leads.reads;
    octets = h.octets;
    held = h.leads.held;
    cert = h.cert;
    is_anchor = h.is_anchor;
  }

  of_named : Anchor w name a → IsAnchorOf w l a
  of_named h =
      let same : h.locator ≡ l = one_named w.locators h.locator l apart (h.named ∙ sym e) h.in_list m in
      let own : IsAnchorOf w h.locator a = record { key = h.key; octets = h.octets; leads = record { uris = h.uris; reads = h.reads; held = h.held }; cert = h.cert; is_anchor = h.is_anchor } in
      subst (λ (x : Locator). IsAnchorOf w x a) same own

  pub named_told : (b : Bool) → (IsTrue b ↔ IsAnchorOf w l a) → IsTrue b ↔ Anchor w name a
  named_told b h = (λ t. is_named (h.0 t), λ x. h.1 (of_named x))
