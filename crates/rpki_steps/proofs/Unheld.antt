-- A name that isn't written in octets of URIs is joined to no folder where a bundle holds something.
use Rattle.std.proofs.Common.{◌≡◌, ℕ, List, Option, Some, None, All, refl}
use Rattle.rpki_standing.specs.certs_basics.Paths.{join}
use Rattle.rpki_standing.specs.certs_basics.Uris.{IsUriOctet, lookup_key}
use Rattle.rpki_standing.specs.rpki_bundle.Bundle.{BundleText, BundleValue}
use Rattle.rpki_rules.specs.World.{find_object}
use Rattle.rpki_steps.proofs.Plain.{name_is}
use Rattle.rpki_steps.proofs.Spelled.{held_uri}

module _ (b : BundleValue) (spelled : (text : List ℕ) × BundleText text b) (folder name : List ℕ) (n : All IsUriOctet name → ⊥) where
  none_of : (o : Option (List ℕ)) → find_object b.objects (lookup_key (join folder name)) ≡ o → o ≡ None
  none_of None e = refl
  none_of (Some octets) e = absurd (n (name_is folder name (held_uri spelled.0 b spelled.1 (lookup_key (join folder name)) octets e)))

  pub not_held_there : find_object b.objects (lookup_key (join folder name)) ≡ None
  not_held_there = none_of (find_object b.objects (lookup_key (join folder name))) refl
