-- What a publication point is told with: its files' octets, and where its revocation list stands (RFC 9286 6.4, RFC 6487 5).
use Rattle.std.specs.Prelude.{◌≡◌, ℕ, List, Option, Some}
use Rattle.rpki_rules.specs.Certs.{Cert}
use Rattle.rpki_rules.specs.Points.{Point}
use Rattle.rpki_steps.specs.declared.point.files.File.{File}
use Rattle.rpki_steps.specs.PointFiles.{AreFilesOf}

-- The certificate of the point's manifest names the revocation list by that URI, and these are the files that the manifest
-- lists. `object` gives the octets of the object with a lookup key.
pub record ArePartsOf (object : List ℕ → Option (List ℕ)) (ca : Cert) (p : Point)
    (uri : List ℕ) (fs : List File) : Type 0 where
  pub uri_is : p.object.cert.tbs.crl_uri ≡ Some uri
  pub files_are : AreFilesOf object ca p.manifest fs

-- It names no list, or one of those files isn't held.
abbrev pub HasNoParts : (List ℕ → Option (List ℕ)) → Cert → Point → Type 0
HasNoParts object ca p = (uri : List ℕ) (fs : List File) → ¬ (ArePartsOf object ca p uri fs)
