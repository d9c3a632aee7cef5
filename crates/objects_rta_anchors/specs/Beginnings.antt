-- With what the numbers that a path covers begin, before they are followed along the path.
use Rattle.std.specs.Prelude.{◌≡◌, ℕ, List, [], ◌∷◌, Some, slice_get}
use Rattle.objects_rta_valid.specs.certs_verify.Holders.{ResourceCertValue}
use Rattle.objects_rta_valid.specs.certs_extension.Cert.{CertValue}
use Rattle.objects_rta_valid.specs.certs_extension.Kinds.{Kind, Ipv4, Ipv6, claim}
use Rattle.objects_rta_valid.specs.certs_extension.Verified.{held_by}
use Rattle.objects_rta_valid.specs.resources_chain.Claims.{Lists}
use Rattle.objects_rta_valid.specs.Places.{Stands, last_of}
use Rattle.objects_rta_anchors.specs.Ends.{IsExplicit}
use Rattle.objects_rta_anchors.specs.declared.anchor.Anchor.{Anchor}
use Rattle.objects_rta_anchors.specs.declared.anchor.Anchor.TheVariants.{Open, Locator, Issuer}
use Rattle.objects_rta_anchors.specs.declared.held.Family.{Family}
use Rattle.objects_rta_anchors.specs.declared.held.Family.TheVariants.{V4, V6}

-- The kind that a family of addresses is.
abbrev pub kind_of : Family → Kind
kind_of V4 = Ipv4
kind_of V6 = Ipv6

-- The certificate at the place lists the number.
abbrev pub ListsAt : List CertValue → Kind → ℕ → ℕ → Type 0
ListsAt certs kind n place = Stands certs place (λ c. Lists (claim c kind) n)

-- Of an open path nothing; below a locator what the last certificate lists; else what the supplied authority holds.
abbrev pub Begins : List CertValue → List ResourceCertValue → Kind → ℕ → Anchor → ℕ → Type 0
Begins certs issuers kind n Open last = ⊥
Begins certs issuers kind n Locator last = ListsAt certs kind n last
Begins certs issuers kind n (Issuer k) last = Stands issuers k (λ r. held_by r.holder kind n)

-- The path ends at that place, and what a locator anchors inherits nothing there.
pub record IsGrounded (certs : List CertValue) (path : List ℕ) (last : ℕ) (anchor : Anchor)
    : Type 0 where
  pub ends : last_of path ≡ last ∷ []
  pub explicit : anchor ≡ Locator → (c : CertValue) → slice_get certs last ≡ Some c → IsExplicit c
