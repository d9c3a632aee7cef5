-- What a locator leads to.
use Rattle.std.proofs.Common.{◌≡◌, ℕ, List, [], ◌∷◌, Some, None, inl, inr, sym, ap, subst, ◌∙◌}
use Rattle.objects_payload.specs.declared.locator.error.ReadError.{ReadError}
use Rattle.objects_payload.specs.declared.locator.error.ReadError.TheVariants.{Memory}
use Rattle.objects_payload.specs.Faults.{BehindComments, IsFault, StartsWithUri}
use Rattle.objects_payload.specs.Tals.{TalValue}
use Rattle.rpki_standing.specs.rpki_bundle.declared.parts.Locator.{Locator}
use Rattle.rpki_rules.specs.Locators.{LocatorText, https_first}
use Rattle.rpki_rules.specs.declared.reason.locators.LocatorReason.TheVariants.{NoneHeld}
use Rattle.rpki_rules.specs.LocatorReasons.{LocatorFails}
use Rattle.rpki_rules.specs.Words.{Each}
use Rattle.rpki_rules.specs.World.{World, at}
use Rattle.rpki_rules.specs.Points.{Anchor, IsFirstHeld, Link}
use Rattle.rpki_standing.specs.Lookups.{HoldsAt, IsNoLocator}

-- The first at which there is an object is one.
one_held : (w : World) (us : List (List ℕ)) (u v o p : List ℕ) → IsFirstHeld w us u o → IsFirstHeld w us v p → (u ≡ v) × (o ≡ p)
one_held w [] u v o p h k = absurd h
one_held w (x ∷ us) u v o p (inl h) (inl k) = let e : Some o ≡ Some p = sym h.1 ∙ k.1 in (sym h.0 ∙ k.0, cc)
one_held w (x ∷ us) u v o p (inl h) (inr k) = let e : Some o ≡ None = sym h.1 ∙ k.0 in absurd cc
one_held w (x ∷ us) u v o p (inr h) (inl k) = let e : Some p ≡ None = sym k.1 ∙ h.0 in absurd cc
one_held w (x ∷ us) u v o p (inr h) (inr k) = one_held w us u v o p h.1 k.1

-- URIs that are the same, with https URIs first, lead to the same.
pub held_by : (w : World) (us vs : List (List ℕ)) (u o : List ℕ) → us ≡ vs → IsFirstHeld w (https_first us) u o → IsFirstHeld w (https_first vs) u o
held_by w us vs u o e h = subst (λ (ws : List (List ℕ)). IsFirstHeld w (https_first ws) u o) e h

pub same_held : (w : World) (us vs : List (List ℕ)) (u v o p : List ℕ) → us ≡ vs → IsFirstHeld w (https_first us) u o → IsFirstHeld w (https_first vs) v p → (u ≡ v) × (o ≡ p)
same_held w us vs u v o p e h k = one_held w (https_first vs) u v o p (held_by w us vs u o e h) k

-- A locator that was read, and then its https URIs put first.
module _ (w : World) (l : Locator) (read tal : TalValue) (us : List (List ℕ)) where
  pub holds_at : (u o : List ℕ) → LocatorText l.text read.uris read.key → tal ≡ record read { uris = https_first read.uris } → us ≡ tal.uris → IsFirstHeld w us u o → HoldsAt w l tal.key u o
  holds_at u o reads e same h = record {
    uris = read.uris;
    reads = subst (λ (t : TalValue). LocatorText l.text read.uris t.key) (sym e) reads;
    held = subst (λ (vs : List (List ℕ)). IsFirstHeld w vs u o) (same ∙ ap (λ (t : TalValue). t.uris) e) h;
  }

  pub holds_nowhere : LocatorText l.text read.uris read.key → tal ≡ record read { uris = https_first read.uris } → us ≡ tal.uris → Each (λ u. at w u ≡ None) us → LocatorFails w l NoneHeld
  holds_nowhere reads e same n = (read.uris, read.key, reads, subst (λ (vs : List (List ℕ)). Each (λ u. at w u ≡ None) vs) (same ∙ ap (λ (t : TalValue). t.uris) e) n)

-- What was read of a text, by the octets that were seen of it.
pub text_told : (e : ReadError) (seen text : List ℕ) → seen ≡ text → e ≡ Memory → IsFault e seen → BehindComments StartsWithUri text
text_told e seen text same is f = subst (BehindComments StartsWithUri) same (subst (λ (x : ReadError). IsFault x seen) is f)

pub text_refused : (e : ReadError) (seen text : List ℕ) → seen ≡ text → (e ≡ Memory → ⊥) → ((e ≡ Memory → ⊥) → IsNoLocator seen) → IsNoLocator text
text_refused e seen text same other n = subst IsNoLocator same (n other)

-- At none of the URIs there is an object.
pub none_held : (w : World) (us : List (List ℕ)) (u o : List ℕ) → Each (λ v. at w v ≡ None) us → ¬ (IsFirstHeld w us u o)
none_held w [] u o n h = h
none_held w (v ∷ us) u o n (inl h) = let wrong : None ≡ Some o = sym n.0 ∙ h.1 in absurd cc
none_held w (v ∷ us) u o n (inr h) = none_held w us u o n.1 h.1

-- The object to which the locator of an anchor leads.
pub lead_of : (w : World) (name : List ℕ) (a : Link) (h : Anchor w name a) → HoldsAt w h.locator h.key a.uri h.octets
lead_of w name a h = record { uris = h.uris; reads = h.reads; held = h.held }
