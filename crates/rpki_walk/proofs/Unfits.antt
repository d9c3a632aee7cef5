-- The first kind of which a claim doesn't fit.
use Rattle.std.proofs.Common.{List, [], ◌∷◌, refl}
use Rattle.rpki_walk.specs.resources.Resources.{Resources}
use Rattle.rpki_walk.specs.resources_chain.Sets.{Run}
use Rattle.rpki_walk.specs.resources_ip.declared.claims.OverclaimedIpv4Resources.{OverclaimedIpv4Resources}
use Rattle.rpki_walk.specs.resources_ip.declared.claims.OverclaimedIpv6Resources.{OverclaimedIpv6Resources}
use Rattle.rpki_rules.specs.certs_x509.declared.errors.verification.Overclaimed.TheVariants as outside
use Rattle.rpki_rules.specs.Kinds.{Ipv4, Ipv6, As}
use Rattle.rpki_walk.specs.Claimed.{ClaimValue}
use Rattle.rpki_walk.specs.Steps.{FitsOf, UnfitOf, TellsUnfit}

module _ (claim : ClaimValue) (held : Resources) where
  pub tells_v4 : (x : OverclaimedIpv4Resources) → UnfitOf claim held Ipv4 x.0 → TellsUnfit claim held (outside.V4 x)
  tells_v4 x u = record { first = record { front = []; behind = Ipv6 ∷ As ∷ []; whole = refl; passed = tt; fails = u.refused }; outside = u }

  pub tells_v6 : FitsOf claim held Ipv4 → (x : OverclaimedIpv6Resources) → UnfitOf claim held Ipv6 x.0 → TellsUnfit claim held (outside.V6 x)
  tells_v6 v4 x u = record { first = record { front = Ipv4 ∷ []; behind = As ∷ []; whole = refl; passed = (v4, tt); fails = u.refused }; outside = u }

  pub tells_as : FitsOf claim held Ipv4 → FitsOf claim held Ipv6 → (x : List Run) → UnfitOf claim held As x → TellsUnfit claim held (outside.Asn x)
  tells_as v4 v6 x u = record { first = record { front = Ipv4 ∷ Ipv6 ∷ []; behind = []; whole = refl; passed = (v4, (v6, tt)); fails = u.refused }; outside = u }
