-- What the paths of an attestation cover, and when the resources that it states are just these (draft-ietf-sidrops-rpki-rta;
-- this project's profile).
use Rattle.std.specs.Prelude.{◌≡◌, ◌↔◌, ℕ, List, Some, slice_get}
use Rattle.objects_rta_valid.specs.certs_verify.Holders.{ResourceCertValue}
use Rattle.objects_rta_valid.specs.certs_basics.Lists.{Each}
use Rattle.objects_rta_valid.specs.certs_extension.Cert.{CertValue}
use Rattle.objects_rta_valid.specs.certs_extension.Kinds.{Kind, Ipv4, Ipv6, As, claim}
use Rattle.objects_rta_valid.specs.certs_extension.Verified.{held_by}
use Rattle.objects_rta_valid.specs.resources_chain.Claims.{Choice, Keeps, Lists}
use Rattle.objects_rta_valid.specs.objects_valid.Stated.{Stated}
use Rattle.objects_rta_valid.specs.Places.{Stands}
use Rattle.objects_rta_anchors.specs.Anchors.{AnchoredValue}
use Rattle.objects_rta_anchors.specs.declared.anchor.Anchor.{Anchor}
use Rattle.objects_rta_anchors.specs.declared.anchor.Anchor.TheVariants.{Open, Locator, Issuer}

-- The certificate at the place lists the number, or inherits the kind.
abbrev pub KeepsAt : List CertValue → Kind → ℕ → ℕ → Type 0
KeepsAt certs kind n place = Stands certs place (λ c. Keeps (claim c kind) n)

-- What anchors a path leaves it the number: a locator each, a supplied authority those that it holds.
abbrev pub Leaves : List ResourceCertValue → Kind → ℕ → Anchor → Type 0
Leaves issuers kind n Open = ⊥
Leaves issuers kind n Locator = Unit {0}
Leaves issuers kind n (Issuer k) = Stands issuers k (λ r. held_by r.holder kind n)

-- A path that is anchored covers the number: each certificate on it lists the number or inherits the kind, and what anchors it
-- leaves it the number.
abbrev pub Covers : List CertValue → List ResourceCertValue → Kind → ℕ → List ℕ → Anchor → Type 0
Covers certs issuers kind n path anchor =
    Each (KeepsAt certs kind n) path × Leaves issuers kind n anchor

-- The path of that signer covers it.
abbrev pub CoversAt : List CertValue → List ResourceCertValue → Kind → ℕ
    → List (List ℕ) → List Anchor → ℕ → Type 0
CoversAt certs issuers kind n paths anchors signer =
    Stands paths signer (λ path. Stands anchors signer (Covers certs issuers kind n path))

-- Some signer's path covers it.
abbrev pub SomeCovers : AnchoredValue → Kind → ℕ → Type 0
SomeCovers v kind n =
    (signer : ℕ) × CoversAt v.rta.signed.certs v.issuers kind n v.paths v.anchors signer

-- What is stated of a kind.
abbrev pub stated_of : Stated → Kind → Choice
stated_of s Ipv4 = s.v4
stated_of s Ipv6 = s.v6
stated_of s As = s.asn

-- No path is open.
abbrev pub AreAnchored : AnchoredValue → Type 0
AreAnchored v = (signer : ℕ) → slice_get v.anchors signer ≡ Some Open → ⊥

-- Just the numbers of that kind that some path covers are stated. A kind that isn't stated is empty.
abbrev pub IsCovered : AnchoredValue → Kind → Type 0
IsCovered v kind =
    (n : ℕ) → Lists (stated_of v.rta.content.resources kind) n ↔ SomeCovers v kind n

-- The attestation holds: no path is open, and of each kind just what is covered is stated.
pub record Holds (v : AnchoredValue) : Type 0 where
  pub anchored : AreAnchored v
  pub covered : (kind : Kind) → IsCovered v kind
