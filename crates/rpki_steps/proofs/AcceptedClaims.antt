-- What verification tests of a certificate below an authority, or of an anchor's, in the words of the rules.
use Rattle.std.proofs.Common.{◌≡◌, ℕ}
use Rattle.certs_verify.specs.Holders.{ResourceCertValue}
use Rattle.rpki_steps.specs.resources_chain.Claims.{FitsIn, Kept, Lists}
use Rattle.rpki_steps.specs.resources_chain.Sets.{IsRunsOf}
use Rattle.rpki_steps.specs.resources_chain.declared.choice.ResourcesChoice.TheVariants.{Inherit}
use Rattle.rpki_steps.specs.certs_extension.Verified.{IsIssuedAt, IsAnchorAt, HoldsBelow, HoldsOwn, held_by}
use Rattle.rpki_rules.specs.Certs.{Cert}
use Rattle.rpki_rules.specs.Kinds.{Kind, Ipv4, Ipv6, As, claim, of_kind, InSet}
use Rattle.rpki_rules.specs.World.{World}
use Rattle.rpki_rules.specs.Points.{Signed}
use Rattle.rpki_steps.specs.Holders.{sets_of}

-- What is issued is signed by the issuer, and its claim fits.
pub issued_signed : (w : World) (ca : Cert) (held : Kind → ℕ → Type 0) (c : Cert) → IsIssuedAt w.good w.moment ca held c → Signed w c ca
issued_signed w ca held c p = record { authority = p.1.1.1.0; issuer_uri = p.1.1.1.1.0; good = p.1.1.1.1.1.0; valid = (p.0, p.1.0) }

pub issued_fits : (w : World) (ca : Cert) (held : Kind → ℕ → Type 0) (c : Cert) → IsIssuedAt w.good w.moment ca held c → (k : Kind) → FitsIn c.tbs.overclaim (claim c k) (held k)
issued_fits w ca held c p Ipv4 = p.1.1.1.1.1.1.0
issued_fits w ca held c p Ipv6 = p.1.1.1.1.1.1.1.0
issued_fits w ca held c p As = p.1.1.1.1.1.1.1.1.0

-- What is held by a certificate that was verified, as sets.
pub below_keeps : (issuer r : ResourceCertValue) (c : Cert) → HoldsBelow (held_by issuer.holder) c r.holder → (k : Kind) → IsRunsOf (Kept (claim c k) (InSet (sets_of issuer) k)) (of_kind (sets_of r) k)
below_keeps issuer r c h Ipv4 = h.v4
below_keeps issuer r c h Ipv6 = h.v6
below_keeps issuer r c h As = h.asn

pub own_lists : (r : ResourceCertValue) (c : Cert) → HoldsOwn c r.holder → (k : Kind) → IsRunsOf (Lists (claim c k)) (of_kind (sets_of r) k)
own_lists r c h Ipv4 = h.v4
own_lists r c h Ipv6 = h.v6
own_lists r c h As = h.asn

-- An anchor's certificate inherits nothing, is valid and signed itself.
pub anchor_own : (w : World) (c : Cert) → IsAnchorAt w.good w.moment c → (k : Kind) → claim c k ≡ Inherit → ⊥
anchor_own w c p Ipv4 = p.1.1.0
anchor_own w c p Ipv6 = p.1.1.1.0
anchor_own w c p As = p.1.1.1.1.0
