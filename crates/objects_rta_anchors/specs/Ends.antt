-- Where paths end, and what is kept of paths.
use Rattle.std.specs.Prelude.{◌≡◌, ℕ, List, [], ◌∷◌, Some, length, slice_get}
use Rattle.objects_rta_valid.specs.certs_extension.Cert.{CertValue}
use Rattle.objects_rta_valid.specs.certs_extension.Kinds.{Kind, claim}
use Rattle.objects_rta_valid.specs.resources_chain.declared.choice.ResourcesChoice.TheVariants.{Inherit}
use Rattle.objects_rta_valid.specs.Certs.{NamesItself}
use Rattle.objects_rta_valid.specs.Places.{Stands, last_of}
use Rattle.objects_rta_anchors.specs.declared.anchor.Anchor.{Anchor}
use Rattle.objects_rta_anchors.specs.declared.anchor.Anchor.TheVariants.{Locator, Open}

-- By signer, the place where the path ends.
pub record AreEnds (paths : List (List ℕ)) (ends : List ℕ) : Type 0 where
  pub long : length ends ≡ length paths
  pub each :
      (signer end : ℕ) (path : List ℕ) → slice_get paths signer ≡ Some path
      → slice_get ends signer ≡ Some end → last_of path ≡ end ∷ []

-- The last certificate of that signer's path is A; and the path is open.
abbrev pub EndsAt : (CertValue → Type 0) → List CertValue → List ℕ → ℕ → Type 0
EndsAt A certs ends signer = Stands ends signer (λ end. Stands certs end A)

abbrev pub IsOpenAt : (CertValue → Type 0) → List CertValue → List ℕ → List Anchor → ℕ → Type 0
IsOpenAt A certs ends anchors signer =
    (slice_get anchors signer ≡ Some Open) × EndsAt A certs ends signer

-- The certificate inherits no kind.
abbrev pub IsExplicit : CertValue → Type 0
IsExplicit c = (kind : Kind) → claim c kind ≡ Inherit → ⊥

-- Certificates that name themselves inherit nothing.
abbrev pub AreExplicit : List CertValue → Type 0
AreExplicit certs =
    (place : ℕ) (c : CertValue) → slice_get certs place ≡ Some c → NamesItself c → IsExplicit c

-- Each path has its end and is anchored or open, and what a locator anchors inherits nothing.
pub record IsKept (certs : List CertValue) (paths : List (List ℕ)) (ends : List ℕ)
    (anchors : List Anchor) : Type 0 where
  pub are_ends : AreEnds paths ends
  pub long : length anchors ≡ length paths
  pub own : AreExplicit certs
  pub rooted :
      (signer end : ℕ) (c : CertValue) → slice_get ends signer ≡ Some end
      → slice_get anchors signer ≡ Some Locator → slice_get certs end ≡ Some c → IsExplicit c
