-- What is said by one set of numbers is said by another that has them, too.
use Rattle.std.proofs.Common.{ℕ, List, [], ◌∷◌}
use Rattle.rpki_walk.specs.resources_chain.Claims.{Choice, FitsIn}
use Rattle.rpki_walk.specs.resources_chain.declared.claims.Overclaim.{Overclaim}
use Rattle.rpki_walk.specs.resources_chain.declared.claims.Overclaim.TheVariants.{Refuse, Trim}
use Rattle.rpki_rules.specs.Certs.{Cert}
use Rattle.rpki_rules.specs.Objects.{RoaAddress}
use Rattle.rpki_rules.specs.Kinds.{Kind, Ipv4, Ipv6, As, claim}
use Rattle.rpki_rules.specs.World.{World}
use Rattle.rpki_rules.specs.Points.{Point}
use Rattle.rpki_rules.specs.Chains.{Fits, StandsIn, IsChild}
use Rattle.rpki_rules.specs.Attests.{Payload, OfRoa, OfAspa, AreHeld, IsCovered, HoldsWith, IsGood}
use Rattle.rpki_rules.specs.Refused.{IsIssued}

-- Between two sets with the same numbers.
module _ (h k : Kind → ℕ → Type 0) (to : (i : Kind) (n : ℕ) → h i n → k i n) where
  pub fits_in_to : (m : Overclaim) (c : Choice) (i : Kind) → FitsIn m c (h i) → FitsIn m c (k i)
  fits_in_to Refuse c i f = λ n l. to i n (f n l)
  fits_in_to Trim c i f = f

  pub fits_to : (c : Cert) → Fits h c → Fits k c
  fits_to c f i = fits_in_to c.tbs.overclaim (claim c i) i (f i)

  pub stands_to : (w : World) (ca : Cert) (p : Point) → StandsIn w h ca p → StandsIn w k ca p
  stands_to w ca p s = record { point = s.point; fits = fits_to p.object.cert s.fits }

  pub child_to : (w : World) (ca : Cert) (p : Point) (c : Cert) → IsChild w h ca p c → IsChild w k ca p c
  child_to w ca p c i = record { sound = i.sound; fits = fits_to c i.fits }

  pub issued_to : (w : World) (ca : Cert) (p : Point) (uri : List ℕ) (c : Cert) → IsIssued w h ca p uri c → IsIssued w k ca p uri c
  issued_to w ca p uri c i = record { extension = i.extension; reads = i.reads; child = child_to w ca p c i.child }

  held_to : (c : Cert) (i : Kind) (rs : List RoaAddress) → AreHeld (HoldsWith h c i) rs → AreHeld (HoldsWith k c i) rs
  held_to c i [] e = e
  held_to c i (a ∷ rs) e = (λ n m. let p = e.0 n m in (p.0, to i n p.1), held_to c i rs e.1)

  covered_to : (c : Cert) (x : Payload) → IsCovered (HoldsWith h c) x → IsCovered (HoldsWith k c) x
  covered_to c (OfRoa r) e = (held_to c Ipv4 r.v4 e.0, held_to c Ipv6 r.v6 e.1)
  covered_to c (OfAspa a) e = (e.0, to As a.customer e.1)

  pub good_to : (w : World) (ca : Cert) (p : Point) (uri : List ℕ) (x : Payload) → IsGood w h ca p uri x → IsGood w k ca p uri x
  good_to w ca p uri x g = record { object = g.object; is_signed = g.is_signed; fits = fits_to g.object.cert g.fits; covered = covered_to g.object.cert x g.covered }
