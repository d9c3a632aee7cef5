-- What stands at a publication point, with the lookup keys of its files (RFC 9286 6).
use Rattle.std.specs.Prelude.{◌≡◌, ℕ, List}
use Rattle.objects_valid.specs.Kinds.{KindValue}
use Rattle.rpki_rules.specs.Certs.{Cert, Crl}
use Rattle.rpki_rules.specs.Objects.{Manifest}
use Rattle.rpki_rules.specs.Points.{Point, HasFiles, IsCrlOf, IsPoint, files}
use Rattle.rpki_rules.specs.World.{World}

-- The manifest's files are held as listed, these are their lookup keys, and the revocation list is the one that its
-- certificate names.
pub record AreParts (w : World) (ca : Cert) (k : KindValue Manifest) (keys : List (List ℕ))
    (crl : Crl) : Type 0 where
  pub held : HasFiles w ca k.content
  pub keys_are : keys ≡ files ca k.content
  pub list : IsCrlOf w ca k.signed k.content crl

pub record StandingValue : Type 0 where
  pub point : Point
  -- the lookup keys of its files, in the manifest's order
  pub keys : List (List ℕ)

-- It is the authority's point, the claim of its manifest's certificate apart, and these are its files.
pub record IsStanding (w : World) (ca : Cert) (s : StandingValue) : Type 0 where
  pub point : IsPoint w ca s.point
  pub keys : s.keys ≡ files ca s.point.manifest
