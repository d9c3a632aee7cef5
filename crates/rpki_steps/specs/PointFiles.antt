-- The files of a publication point, with their octets (RFC 9286 6.4).
use Rattle.std.specs.Prelude.{◌≡◌, ℕ, List, [], ◌∷◌, map, Option, Some}
use Rattle.rpki_standing.specs.certs_basics.Paths.{join}
use Rattle.rpki_standing.specs.certs_basics.Uris.{lookup_key}
use Rattle.rpki_rules.specs.Certs.{Cert}
use Rattle.rpki_rules.specs.Objects.{File as Listed, Manifest}
use Rattle.rpki_rules.specs.Points.{files}
use Rattle.rpki_steps.specs.declared.point.files.File.{File}

-- The file of that name in that folder, with the octets that are held there. `object` gives the octets of the object
-- with a lookup key.
pub record IsFileIn (object : List ℕ → Option (List ℕ)) (folder name : List ℕ) (file : File)
    : Type 0 where
  pub uri_is : file.uri ≡ join folder name
  pub held : object (lookup_key file.uri) ≡ Some file.octets

-- The files in that folder that are listed, one for one and in the order of the list.
abbrev pub AreFilesIn : (List ℕ → Option (List ℕ)) → List ℕ → List Listed → List File → Type 0
AreFilesIn object folder [] [] = Unit {0}
AreFilesIn object folder [] (f ∷ fs) = ⊥
AreFilesIn object folder (l ∷ ls) [] = ⊥
AreFilesIn object folder (l ∷ ls) (f ∷ fs) =
    IsFileIn object folder l.name f × AreFilesIn object folder ls fs

-- One of those that are listed isn't held.
abbrev pub NoFilesIn : (List ℕ → Option (List ℕ)) → List ℕ → List Listed → Type 0
NoFilesIn object folder ls = (fs : List File) → ¬ (AreFilesIn object folder ls fs)

-- The files of the authority's repository that the manifest lists, in its order.
pub record AreFilesOf (object : List ℕ → Option (List ℕ)) (ca : Cert) (m : Manifest)
    (fs : List File) : Type 0 where
  pub repository : List ℕ
  pub repository_is : ca.tbs.access.repository ≡ Some repository
  pub listed : AreFilesIn object repository m.files fs

-- The authority names no repository, or one of those files isn't held.
abbrev pub NoFilesOf : (List ℕ → Option (List ℕ)) → Cert → Manifest → Type 0
NoFilesOf object ca m = (fs : List File) → ¬ (AreFilesOf object ca m fs)

-- The lookup keys of such files are those by which the rules know the manifest's files.
abbrev pub FilesAreListed : Type 0
FilesAreListed = (object : List ℕ → Option (List ℕ)) (ca : Cert) (m : Manifest) (fs : List File) →
    AreFilesOf object ca m fs → map (λ (f : File). lookup_key f.uri) fs ≡ files ca m
