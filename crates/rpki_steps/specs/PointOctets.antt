-- What stands at an authority's publication point, with the octets of its files (RFC 9286 6, RFC 6487 5).
use Rattle.std.specs.Prelude.{◌≡◌, map, Option, Some, None}
use Rattle.rpki_rules.specs.Certs.{Cert}
use Rattle.rpki_rules.specs.Objects.{File as Listed}
use Rattle.rpki_rules.specs.Points.{IsPoint, Point}
use Rattle.rpki_rules.specs.World.{World}
use Rattle.rpki_steps.specs.declared.point.files.File.{File}
use Rattle.rpki_steps.specs.declared.point.standing.Point.{Point as Found}
use Rattle.rpki_steps.specs.PointFiles.{AreFilesOf}

-- What is found at a point has the certificate of its manifest, its revocation list, by which URI this certificate names
-- that list, and the files that the manifest lists, in its order.
pub record IsFoundAt (w : World) (ca : Cert) (p : Point) (found : Found) : Type 0 where
  pub manifest_cert_is : found.manifest_cert ≡ p.object.cert
  pub crl_is : found.crl ≡ p.crl
  pub crl_uri_is : p.object.cert.tbs.crl_uri ≡ Some found.crl_uri
  pub files_are : AreFilesOf w.object ca p.manifest found.files.items

-- It is what is found at a point that stands by these rules.
pub record IsFoundStanding (stands : Point → Type 0) (w : World) (ca : Cert) (found : Found)
    : Type 0 where
  pub point : Point
  pub standing : stands point
  pub told : IsFoundAt w ca point found

-- The authority's point that stands by these rules, or nothing where none does.
abbrev pub FindsPoint : (Point → Type 0) → World → Cert → Option Found → Type 0
FindsPoint stands w ca None = (p : Point) → ¬ (stands p)
FindsPoint stands w ca (Some found) = IsFoundStanding stands w ca found

-- The octets of a point's files have the hashes that its manifest lists, in its order (RFC 9286 6.5).
abbrev pub FilesHaveHashes : Type 0
FilesHaveHashes = (w : World) (ca : Cert) (p : Point) (found : Found)
    → IsPoint w ca p → IsFoundAt w ca p found
    → map (λ (f : File). w.digests.sha256 f.octets) found.files.items
    ≡ map (λ (l : Listed). l.hash) p.manifest.files
