-- The first of the URIs at which there is an object, as far as they were tried.
use Rattle.std.proofs.Common.{◌≡◌, ℕ, ◌+◌, ◌<◌, ◌≤◌, List, [], ◌∷◌, length, drop, map, get_or, Option, Some, None, inl, inr, refl, sym, ap, subst, ◌∙◌}
use Rattle.std.proofs.lemmas.List.{at_drop_more, drop_all}
use Rattle.objects_payload.specs.declared.locator.uri.TalUri.{TalUri}
use Rattle.objects_payload.specs.Uris.{text_of}
use Rattle.rpki_standing.specs.certs_basics.Uris.{lookup_key}
use Rattle.rpki_rules.specs.World.{World, at}
use Rattle.rpki_rules.specs.Points.{IsFirstHeld}
use Rattle.rpki_rules.specs.Words.{Each}

-- The first of the others at which there is an object is the first of all.
pub record Passes (w : World) (others all : List (List ℕ)) : Type 0 where
  pub there : (key octets : List ℕ) → IsFirstHeld w others key octets → IsFirstHeld w all key octets
  pub back : (key octets : List ℕ) → IsFirstHeld w all key octets → IsFirstHeld w others key octets

-- At the first of them there is no object.
behind : (w : World) (u : List ℕ) (others all : List (List ℕ)) → at w u ≡ None → Passes w (u ∷ others) all → Passes w others all
behind w u others all none p = record {
  there = λ key octets h. p.there key octets (inr (none, h));
  back = λ key octets h. elim (p.back key octets h) [
    | inl g ↦ let wrong : None ≡ Some octets = sym none ∙ g.1 in absurd cc
    | inr g ↦ g.1
  ];
}

-- The URIs from a place on are the one there, and those from the next on.
one_more : (us : List TalUri) (i : ℕ) (u : TalUri) → i < length us → u ≡ get_or us i u → map text_of (drop i us) ≡ text_of u ∷ map text_of (drop (i + 1) us)
one_more us i u inside e =
    let next : map text_of (drop i us) ≡ text_of (get_or us i u) ∷ map text_of (drop (i + 1) us) = at_drop_more (map text_of) us i u inside in
    next ∙ ap (λ (x : TalUri). text_of x ∷ map text_of (drop (i + 1) us)) (sym e)

-- Where none is the first at which there is an object, there is one at none.
next_none : (w : World) (u : List ℕ) (us : List (List ℕ)) (o : Option (List ℕ)) → at w u ≡ o → (at w u ≡ None → Each (λ v. at w v ≡ None) us) → ((octets : List ℕ) → at w u ≡ Some octets → ⊥) → Each (λ v. at w v ≡ None) (u ∷ us)
next_none w u us None e rest never = (e, rest e)
next_none w u us (Some octets) e rest never = absurd (never octets e)

each_none : (w : World) (us : List (List ℕ)) → ((key octets : List ℕ) → ¬ (IsFirstHeld w us key octets)) → Each (λ u. at w u ≡ None) us
each_none w [] never = tt
each_none w (u ∷ us) never =
    next_none w u us (at w u) refl (λ e. each_none w us (λ key octets h. never key octets (inr (e, h)))) (λ octets e. never (lookup_key u) octets (inl (refl, e)))

module _ (w : World) (us : List TalUri) where
  -- There is no object at this one.
  pub passes_one : (i : ℕ) (u : TalUri) → i < length us → u ≡ get_or us i u → at w (text_of u) ≡ None → Passes w (map text_of (drop i us)) (map text_of us) → Passes w (map text_of (drop (i + 1) us)) (map text_of us)
  passes_one i u inside e none p =
      behind w (text_of u) (map text_of (drop (i + 1) us)) (map text_of us) none (subst (λ (os : List (List ℕ)). Passes w os (map text_of us)) (one_more us i u inside e) p)

  -- There is an object at this one.
  pub found_here : (i : ℕ) (u : TalUri) (key octets : List ℕ) → i < length us → u ≡ get_or us i u → key ≡ lookup_key (text_of u) → at w (text_of u) ≡ Some octets → Passes w (map text_of (drop i us)) (map text_of us) → IsFirstHeld w (map text_of us) key octets
  found_here i u key octets inside e k held p =
      p.there key octets (subst (λ (os : List (List ℕ)). IsFirstHeld w os key octets) (sym (one_more us i u inside e)) (inl (sym k, held)))

  -- All were tried.
  pub found_none : (i : ℕ) → length us ≤ i → Passes w (map text_of (drop i us)) (map text_of us) → Each (λ u. at w u ≡ None) (map text_of us)
  found_none i past p = each_none w (map text_of us) (λ key octets h.
      let ended : map text_of (drop i us) ≡ [] = ap (map text_of) (drop_all i us past) in
      let held : IsFirstHeld w [] key octets = subst (λ (os : List (List ℕ)). IsFirstHeld w os key octets) ended (p.back key octets h) in
      absurd held)
