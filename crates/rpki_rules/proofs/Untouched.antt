-- Where no accepted chain of a world names one of the URIs, another world that differs at these alone says the same.
use Rattle.std.proofs.Common.{◌≡◌, ◌↔◌, ℕ, List, [], ◌∷◌, Option, inl, inr, sym, subst}
use Rattle.rpki_rules.specs.declared.cause.Cause.{Cause}
use Rattle.rpki_rules.specs.Words.{Each}
use Rattle.rpki_rules.specs.World.{World}
use Rattle.rpki_rules.specs.Points.{Link}
use Rattle.rpki_rules.specs.Chains.{last_of, Accepted}
use Rattle.rpki_rules.specs.Attests.{Origin, Provision, Payload, WitnessValue, Good, AttestsOrigin, AttestsProvision}
use Rattle.rpki_rules.specs.Refused.{ChainRefuses, IsRefused}
use Rattle.rpki_rules.specs.Lines.{Customer}
use Rattle.rpki_rules.specs.Output.{IsCustomer, IsOutput}
use Rattle.rpki_rules.specs.Reach.{IsOneOf, NamesOne, SomeLocatorNames, NoFrontNames}
use Rattle.rpki_rules.specs.Laws.{UntouchedOutput}
use Rattle.rpki_rules.proofs.Fronts.{accepted_front}
use Rattle.rpki_rules.proofs.Cross.{having, is_having, others, names_both, crosses, good_over, none_over, anchor_refused_over}
use Rattle.rpki_rules.proofs.Refusals.{refuses_there}

-- Worlds that tell the same have the same output.
module _ (u v : World) (origins : (x : Origin) → AttestsOrigin u x ↔ AttestsOrigin v x) (provisions : (x : Provision) → AttestsProvision u x ↔ AttestsProvision v x) (refusals : (name : List ℕ) (why : Cause) → IsRefused u name why ↔ IsRefused v name why) where
  customer_same : (c : Customer) → IsCustomer u c → IsCustomer v c
  customer_same c h = record {
    ascending = h.ascending;
    some = h.some;
    exact = λ p. let x : Provision = record { customer = c.number; provider = p } in (λ m. (provisions x).0 ((h.exact p).0 m), λ k. (h.exact p).1 ((provisions x).1 k));
  }

  each_same : (cs : List Customer) → Each (IsCustomer u) cs → Each (IsCustomer v) cs
  each_same [] h = tt
  each_same (c ∷ cs) h = (customer_same c h.0, each_same cs h.1)

  pub output_same : (text : List ℕ) → IsOutput u text → IsOutput v text
  output_same text h = record {
    origins = h.origins;
    customers = h.customers;
    refusals = h.refusals;
    origins_are = record { ascend = h.origins_are.ascend; exact = λ x. (λ m. (origins x).0 ((h.origins_are.exact x).0 m), λ k. (h.origins_are.exact x).1 ((origins x).1 k)) };
    customers_are = record { ascending = h.customers_are.ascending; each = each_same h.customers h.customers_are.each; complete = λ x k. h.customers_are.complete x ((provisions x).1 k) };
    refusals_are = record { ascend = h.refusals_are.ascend; exact = λ r. (λ m. (refusals r.name r.cause).0 ((h.refusals_are.exact r).0 m), λ k. (h.refusals_are.exact r).1 ((refusals r.name r.cause).1 k)) };
    whole = h.whole;
  }

-- No accepted chain names one of the URIs.
abbrev Idle : List (List ℕ) → World → Type 0
Idle uris w = (name : List ℕ) (a : Link) (cs : List Link) → Accepted w name a cs → ¬ (NamesOne uris w (last_of a cs).cert)

module _ (uris : List (List ℕ)) (w : World) (f g : List ℕ → Option (List ℕ)) (same : (key : List ℕ) → ¬ (IsOneOf uris key) → g key ≡ f key) (apart : ¬ (SomeLocatorNames uris w)) (idle : Idle uris (having w f)) where
  -- Nor does one of the second world.
  idle_there : Idle uris (having w g)
  idle_there name a cs h n = elim (crosses uris w g f (others same) apart name a cs h) [
    | inl k ↦ idle name a cs k (names_both uris w g f (others same) (last_of a cs).cert n)
    | inr m ↦ idle name a m.front m.there m.names_there
  ]

  good_there : (t : WitnessValue) (x : Payload) → Good (having w f) t x → Good (having w g) t x
  good_there t x h = elim (good_over uris w f g same apart t x h) [
    | inl k ↦ k
    | inr m ↦ absurd (idle t.locator h.anchor m.front m.here m.names_here)
  ]

  origin_there : (x : Origin) → AttestsOrigin (having w f) x → AttestsOrigin (having w g) x
  origin_there x h = record { witness = h.witness; payload = h.payload; good = good_there h.witness h.payload h.good; one = h.one }

  provision_there : (x : Provision) → AttestsProvision (having w f) x → AttestsProvision (having w g) x
  provision_there x h = record { witness = h.witness; payload = h.payload; good = good_there h.witness h.payload h.good; one = h.one }

  none_names : (name : List ℕ) (a : Link) (cs : List Link) → Accepted (having w f) name a cs → NoFrontNames uris (having w f) a cs
  none_names name a cs h front is = idle name a front (accepted_front (having w f) name a front cs is h)

  is_accepted : (name : List ℕ) (a : Link) (cs : List Link) (uri : List ℕ) (why : Cause) → ChainRefuses (having w f) name a cs uri why → Accepted (having w f) name a cs
  is_accepted name a cs uri why (inl h) = h.1.accepted
  is_accepted name a cs uri why (inr h) = h.accepted

  refused_there : (name : List ℕ) (why : Cause) → IsRefused (having w f) name why → IsRefused (having w g) name why
  refused_there name why (inl h) = inl (h.0, none_over uris w f g same apart name h.1)
  refused_there name why (inr (inl h)) = inr (inl (h.0, anchor_refused_over uris w f g (others same) apart name h.1))
  refused_there name why (inr (inr h)) =
      let locator = h.0 in let a = h.1 in let cs = h.2 in
      inr (inr (locator, a, cs, refuses_there uris w f g same apart locator a cs (none_names locator a cs (is_accepted locator a cs name why h.3)) name why h.3))

pub untouched_output : UntouchedOutput
untouched_output uris w w' agree apart idle text =
    let f = w.object in let g = w'.object in let s = agree.objects in let e = is_having uris w w' agree in
    let o = others s in let back = idle_there uris w f g s apart idle in
    let origins : (x : Origin) → AttestsOrigin w x ↔ AttestsOrigin (having w g) x = λ x. (origin_there uris w f g s apart idle x, origin_there uris w g f o apart back x) in
    let provisions : (x : Provision) → AttestsProvision w x ↔ AttestsProvision (having w g) x = λ x. (provision_there uris w f g s apart idle x, provision_there uris w g f o apart back x) in
    let refusals : (name : List ℕ) (why : Cause) → IsRefused w name why ↔ IsRefused (having w g) name why = λ name why. (refused_there uris w f g s apart idle name why, refused_there uris w g f o apart back name why) in (
      λ h. subst (λ (u : World). IsOutput u text) (sym e) (output_same w (having w g) origins provisions refusals text h),
      λ h. output_same (having w g) w (λ x. ((origins x).1, (origins x).0)) (λ x. ((provisions x).1, (provisions x).0)) (λ name why. ((refusals name why).1, (refusals name why).0)) text (subst (λ (u : World). IsOutput u text) e h),
    )
