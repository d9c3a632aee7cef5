-- Which manifests have all their files, and else which test fails.
use Rattle.std.proofs.Common.{◌≡◌, ℕ, List, [], ◌∷◌, None, Some, refl, sym, subst}
use Rattle.rpki_standing.specs.certs_basics.Lists.{Each, FirstFailing}
use Rattle.rpki_standing.specs.certs_basics.Paths.{join}
use Rattle.rpki_standing.specs.rpki_bundle.Bundle.{BundleValue}
use Rattle.rpki_rules.specs.Certs.{Cert, Digests, Verdicts}
use Rattle.rpki_rules.specs.Objects.{File, Manifest, Object}
use Rattle.rpki_rules.specs.PointReasons.{FileHeld, FileHash, IsFolder, PassesManifest, file_tests}
use Rattle.rpki_rules.specs.Points.{HasFiles, IsHeld}
use Rattle.rpki_rules.specs.World.{World, at, world_of}
use Rattle.rpki_rules.proofs.Firsts.{each_also, each_flat, not_none}
use Rattle.rpki_rules.proofs.PointReasons.{file_passes}
use Rattle.rpki_standing.specs.PointFaults.{names_tests}
use Rattle.rpki_standing.proofs.Failing.{one_value}

-- The file passes its tests whatever the verdicts, in each manifest of each authority with that folder.
abbrev pub IsThere : Digests → BundleValue → List ℕ → File → Type 0
IsThere d b folder f =
    (v : Verdicts) (ca : Cert) (o : Object) (m : Manifest) → IsFolder ca folder → Each (PassesManifest (world_of d v b) ca o m) (file_tests f)

module _ (w : World) (ca : Cert) (o : Object) (m : Manifest) (folder : List ℕ) (is : IsFolder ca folder) where
  -- Files that pass their tests are had.
  pub has_files : Each (PassesManifest w ca o m) (names_tests m) → HasFiles w ca m
  has_files all = record {
    folder = folder;
    folder_is = is;
    distinct = all.0;
    each = each_also (λ (f : File). Each (PassesManifest w ca o m) (file_tests f)) (IsHeld w folder) m.files (λ f p. p.1.0 folder is) (each_flat file_tests (PassesManifest w ca o m) m.files all.1);
  }

  module _ (f : File) where
    -- No object is there.
    pub none_there : (given : File) → given ≡ f → at w (join folder f.name) ≡ None → FirstFailing (PassesManifest w ca o m) (file_tests f) (FileHeld given)
    none_there given same n = subst (λ (g : File). FirstFailing (PassesManifest w ca o m) (file_tests f) (FileHeld g)) (sym same) (record {
      front = [];
      behind = FileHash f ∷ [];
      whole = refl;
      passed = tt;
      fails = λ p. p folder is n;
    })

    -- One is there, with that hash, or with another.
    module _ (octets : List ℕ) (held : at w (join folder f.name) ≡ Some octets) where
      pub is_there : w.digests.sha256 octets ≡ f.hash → Each (PassesManifest w ca o m) (file_tests f)
      is_there h = file_passes w ca o m folder is f (record { octets = octets; held = held; hash = h })

      other_hash : (w.digests.sha256 octets ≡ f.hash → ⊥) → ¬ (IsHeld w folder f)
      other_hash n h = n (subst (λ (t : List ℕ). w.digests.sha256 t ≡ f.hash) (one_value h.octets octets (at w (join folder f.name)) h.held held) h.hash)

      pub hash_fails : (given : File) → given ≡ f → (w.digests.sha256 octets ≡ f.hash → ⊥) → FirstFailing (PassesManifest w ca o m) (file_tests f) (FileHash given)
      hash_fails given same n = subst (λ (g : File). FirstFailing (PassesManifest w ca o m) (file_tests f) (FileHash g)) (sym same) (record {
        front = FileHeld f ∷ [];
        behind = [];
        whole = refl;
        passed = (λ other also. not_none (at w (join other f.name)) octets (subst (λ (u : List ℕ). at w (join u f.name) ≡ Some octets) (one_value folder other ca.tbs.access.repository is also) held), tt);
        fails = λ p. other_hash n (p folder is);
      })
