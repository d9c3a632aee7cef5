-- What a witness names in a bundle's world.
use Rattle.std.proofs.Common.{◌≡◌, ◌≢◌, ℕ, inl, inr, List, [], ◌∷◌, ◌++◌, All, Some, bytes_eq, sym, subst, ◌∙◌}
use Rattle.std.proofs.lemmas.List.Elements.{All-head, All-tail}
use Rattle.std.proofs.lemmas.Slice.Eq.{bytes_eq-Decides}
use Rattle.rpki_rules.specs.rpki_bundle.declared.parts.Object.{Object}
use Rattle.rpki_rules.specs.rpki_bundle.Lawful.{IsLawfulObject}
use Rattle.rpki_rules.specs.certs_basics.Uris.{IsLookupKey}
use Rattle.rpki_rules.specs.Words.{Each}
use Rattle.rpki_rules.specs.World.{World, find_object}
use Rattle.rpki_rules.specs.Points.{Link, Anchor}
use Rattle.rpki_rules.specs.Chains.{places, Descends}
use Rattle.rpki_rules.specs.Laws.{WitnessNames}
use Rattle.rpki_rules.specs.Locators.{https_first}
use Rattle.rpki_rules.proofs.Readings.{first_held}
use Rattle.rpki_rules.proofs.of_rpki_bundle.Texts.{text_lawful}
use Rattle.rpki_rules.proofs.LookedUp.{chosen}
use Rattle.rpki_rules.proofs.Groups.{not_empty}

-- Something is held at the key.
abbrev IsKept : World → List ℕ → Type 0
IsKept w key = (octets : List ℕ) × (w.object key ≡ Some octets)

each_append : {X : Type 0} (P : X → Type 0) (xs : List X) (y : X) → Each P xs → P y → Each P (xs ++ y ∷ [])
each_append P [] y e p = (p, tt)
each_append P (x ∷ xs) y e p = (e.0, each_append P xs y e.1 p)

each_map : {X : Type 0} (P Q : X → Type 0) → ((x : X) → P x → Q x) → (xs : List X) → Each P xs → Each Q xs
each_map P Q f [] e = tt
each_map P Q f (x ∷ xs) e = (f x e.0, each_map P Q f xs e.1)

-- All places of a chain are held.
places_kept : (w : World) (name : List ℕ) (a : Link) (cs : List Link) → Descends w name a cs → Each (IsKept w) (places a cs)
places_kept w name a [] h = let q = first_held w (https_first h.uris) a.uri h.octets h.held in ((h.octets, q), tt)
places_kept w name a (c ∷ cs) h = each_append (IsKept w) (places a cs) c.uri (places_kept w name a cs h.0) (h.3.file.reads.octets, h.3.file.reads.held)

pub some_places : (a : Link) (cs : List Link) → places a cs ≢ []
some_places a [] e = absurd cc
some_places a (c ∷ cs) e = not_empty (places a cs) c.uri e

anchor_of : (w : World) (name : List ℕ) (a : Link) (cs : List Link) → Descends w name a cs → Anchor w name a
anchor_of w name a [] h = h
anchor_of w name a (c ∷ cs) h = anchor_of w name a cs h.0

-- What a bundle holds is at lookup keys.
own_key : (objects : List Object) → All IsLawfulObject objects → (key octets : List ℕ) → find_object objects key ≡ Some octets → IsLookupKey key
own_key [] h key octets e = absurd cc
own_key (o ∷ os) h key octets e = elim (chosen (bytes_eq o.uri key) (Some o.octets) (find_object os key) (Some octets) e) [
  | inl q ↦ subst IsLookupKey ((bytes_eq-Decides o.uri key).0 q.0) (All-head IsLawfulObject o os h)
  | inr q ↦ own_key os (All-tail IsLawfulObject o os h) key octets q.1
]

pub witness_names : WitnessNames
witness_names d v octets b text t h =
    let g = h.1 in
    let own : (key : List ℕ) → (o : List ℕ) × (find_object b.objects key ≡ Some o) → IsLookupKey key = λ key k. own_key b.objects (text_lawful text).objects.each key k.0 k.1 in
    let s = g.good.is_signed in
    let a = anchor_of _ t.locator g.anchor g.below g.accepted.descends in (
      own t.object (s.octets, s.held),
      subst (λ (xs : List (List ℕ)). Each IsLookupKey xs) (sym g.places_are) (each_map _ IsLookupKey own (places g.anchor g.below) (places_kept _ t.locator g.anchor g.below g.accepted.descends)),
      λ e. some_places g.anchor g.below (sym g.places_are ∙ e),
      (a.locator, a.in_list, a.named),
    )
