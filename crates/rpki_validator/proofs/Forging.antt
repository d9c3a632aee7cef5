-- Bundles that agree but at some URIs are such worlds.
use Rattle.std.proofs.Common.{◌≡◌, ℕ, List, refl, ap, inl, inr, subst}
use Rattle.std.specs.Prelude.{not}
use Rattle.rpki_validator.specs.rpki_bundle.Bundle.{BundleValue}
use Rattle.rpki_validator.specs.rpki_bundle.declared.parts.Verdict.{Verdict}
use Rattle.rpki_validator.specs.resources.Resources.{Resources}
use Rattle.rpki_validator.specs.rpki_rules.Certs.{Digests}
use Rattle.rpki_validator.specs.rpki_rules.declared.cause.Cause.{Cause}
use Rattle.rpki_validator.specs.rpki_rules.declared.cause.Cause.TheVariants as cause
use Rattle.rpki_validator.specs.rpki_rules.Laws.{LocatorsStay, RefusalsStay, UntouchedOutput}
use Rattle.rpki_validator.specs.rpki_rules.Lines.{Refusal}
use Rattle.rpki_validator.specs.rpki_rules.Points.{Link}
use Rattle.rpki_validator.specs.rpki_rules.Reach.{AgreeBut, Forged, Held, IsReach}
use Rattle.rpki_validator.specs.rpki_rules.Refused.{LocatorRefused, AnchorRefused, ChainRefuses, IsRefused}
use Rattle.rpki_validator.specs.rpki_rules.World.{World, run_world, table}
use Rattle.rpki_steps.specs.rpki_rules.Outside.{OutsideStays}
use Rattle.rpki_validator.specs.Forging.{AgreesBut, ForgingStaysInside, IsOfLocator, LocatorLinesStay, RefusalLinesStay, UntouchedStays}

agree : (d : Digests) (uris : List (List ℕ)) (b b' : BundleValue) → AgreesBut uris b b' → AgreeBut uris (run_world d b) (run_world d b')
agree d uris b b' a = record {
  moment = a.moment;
  depth = a.depth;
  strict = ap not a.relaxed;
  locators = a.locators;
  digests = refl;
  good = ap (λ (vs : List Verdict). table d vs) a.verdicts;
  objects = a.objects;
}

forged : (d : Digests) (uris : List (List ℕ)) (b b' : BundleValue) (r : Resources) → AgreesBut uris b b' → IsReach uris (run_world d b) (Held r) → Forged uris r (run_world d b) (run_world d b')
forged d uris b b' r a h = record { agree = agree d uris b b' a; no_locator = h.0; bounds = λ k n i. ((h.1 k).same n).1 i }

pub stays_inside : OutsideStays → ForgingStaysInside
stays_inside law d uris b b' r a h text text' o o' = law uris r (run_world d b) (run_world d b') (forged d uris b b' r a h) text text' o o'

pub stays_untouched : UntouchedOutput → UntouchedStays
stays_untouched law d uris b b' a n c text = law uris (run_world d b) (run_world d b') (agree d uris b b' a) n c text

-- No chain refuses a locator.
no_chain_tal : (w : World) (locator : List ℕ) (a : Link) (cs : List Link) (name : List ℕ) → ¬ (ChainRefuses w locator a cs name cause.Tal)
no_chain_tal w locator a cs name (inl h) = let e : cause.Tal ≡ cause.Point = h.0 in cc
no_chain_tal w locator a cs name (inr h) = h.refused

no_chain_anchor : (w : World) (locator : List ℕ) (a : Link) (cs : List Link) (name : List ℕ) → ¬ (ChainRefuses w locator a cs name cause.Anchor)
no_chain_anchor w locator a cs name (inl h) = let e : cause.Anchor ≡ cause.Point = h.0 in cc
no_chain_anchor w locator a cs name (inr h) = h.refused

-- So of locators two worlds refuse the same where they refuse the same texts and the same anchors.
module _ (w w' : World) (r : Refusal) (o : IsOfLocator r) (tal : LocatorRefused w r.name → LocatorRefused w' r.name) (anchor : AnchorRefused w r.name → AnchorRefused w' r.name) where
  refused_too : IsRefused w r.name r.cause → IsRefused w' r.name r.cause
  refused_too (inl h) = inl (h.0, tal h.1)
  refused_too (inr (inl h)) = inr (inl (h.0, anchor h.1))
  refused_too (inr (inr h)) =
      let by : Cause → Type 0 = λ why. ChainRefuses w h.0 h.1 h.2 r.name why in
      elim o [
        | inl e ↦ absurd (no_chain_tal w h.0 h.1 h.2 r.name (subst by e h.3))
        | inr e ↦ absurd (no_chain_anchor w h.0 h.1 h.2 r.name (subst by e h.3))
      ]

pub locator_lines : LocatorsStay → LocatorLinesStay
locator_lines law d uris b b' a n text text' o o' r of =
    let w = run_world d b in let w' = run_world d b' in let same = law uris w w' (agree d uris b b' a) n r.name in
    let tal = same.0 in let anchor = same.1 in let here = o.refusals_are.exact r in let there = o'.refusals_are.exact r in (
      λ m. there.1 (refused_too w w' r of tal.0 anchor.0 (here.0 m)),
      λ m. here.1 (refused_too w' w r of tal.1 anchor.1 (there.0 m)),
    )

pub refusal_lines : RefusalsStay → RefusalLinesStay
refusal_lines law d uris b b' agrees n locator a cs clear r h =
    let k = law uris (run_world d b) (run_world d b') (agree d uris b b' agrees) n locator a cs clear r.name r.cause h in
    (k, λ text' o'. (o'.refusals_are.exact r).1 (inr (inr (locator, a, cs, k))))
