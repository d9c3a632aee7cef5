-- What a bundle holds stands at URIs.
use Rattle.std.proofs.Common.{◌≡◌, ◌⊎◌, inl, inr, ℕ, Bool, true, false, List, [], ◌∷◌, All, Some, bytes_eq, if◌then◌else◌, refl, subst}
use Rattle.std.proofs.lemmas.List.Elements.{All-head, All-tail}
use Rattle.std.proofs.lemmas.Slice.Eq.{bytes_eq-Decides}
use Rattle.rpki_rules.specs.rpki_bundle.declared.parts.Object.{Object}
use Rattle.rpki_rules.specs.rpki_bundle.Bundle.{BundleText, BundleValue}
use Rattle.rpki_rules.specs.rpki_bundle.Lawful.{IsLawfulObject}
use Rattle.rpki_rules.proofs.of_rpki_bundle.Texts.{text_lawful}
use Rattle.rpki_standing.specs.certs_basics.Uris.{IsUri}
use Rattle.rpki_rules.specs.World.{find_object}

-- The value of a choice is one of both.
chosen : {X : Type 0} (b : Bool) (x y r : X) → (if b then x else y) ≡ r → ((b ≡ true) × (x ≡ r)) ⊎ ((b ≡ false) × (y ≡ r))
chosen true x y r e = inl (refl, e)
chosen false x y r e = inr (refl, e)

own_uri : (objects : List Object) → All IsLawfulObject objects → (key octets : List ℕ) → find_object objects key ≡ Some octets → IsUri key
own_uri [] h key octets e = absurd cc
own_uri (o ∷ os) h key octets e = elim (chosen (bytes_eq o.uri key) (Some o.octets) (find_object os key) (Some octets) e) [
  | inl q ↦ subst IsUri ((bytes_eq-Decides o.uri key).0 q.0) (All-head IsLawfulObject o os h).uri
  | inr q ↦ own_uri os (All-tail IsLawfulObject o os h) key octets q.1
]

pub held_uri : (text : List ℕ) (b : BundleValue) → BundleText text b → (key octets : List ℕ) → find_object b.objects key ≡ Some octets → IsUri key
held_uri text b t key octets e = own_uri b.objects (text_lawful t).objects.each key octets e
