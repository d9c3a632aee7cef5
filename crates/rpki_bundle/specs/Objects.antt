-- The object at a URI.
use Rattle.std.specs.Prelude.{◌≡◌, ◌⊎◌, ℕ, List, [], ◌∷◌}
use Rattle.rpki_bundle.specs.declared.parts.Object.{Object}

-- One of the objects has this URI and these octets.
abbrev pub IsAt : List Object → List ℕ → List ℕ → Type 0
IsAt [] uri octets = ⊥
IsAt (o ∷ os) uri octets = ((o.uri ≡ uri) × (o.octets ≡ octets)) ⊎ IsAt os uri octets
