-- The files of an authority's repository, and that they are there where they are held as they are listed.
use Rattle.std.proofs.Common.{◌≡◌, ◌∙◌, ℕ, List, [], ◌∷◌, Option, Some, None, Result, Ok, Err, MatchOption, refl, sym, subst}
use Rattle.std.specs.Prelude.{IfOk}
use Rattle.rpki_standing.specs.certs_basics.Paths.{join}
use Rattle.rpki_rules.specs.Certs.{Cert}
use Rattle.rpki_rules.specs.Objects.{File as Listed, Manifest}
use Rattle.rpki_rules.specs.Points.{HasFiles, IsHeld}
use Rattle.rpki_rules.specs.Words.{Each}
use Rattle.rpki_rules.specs.World.{World}
use Rattle.rpki_steps.specs.declared.point.files.File.{File}
use Rattle.rpki_steps.specs.PointFiles.{AreFilesIn, AreFilesOf, NoFilesIn, NoFilesOf}

module _ (object : List ℕ → Option (List ℕ)) (ca : Cert) (m : Manifest) where
  -- The authority names no repository.
  pub no_repository : ca.tbs.access.repository ≡ None → NoFilesOf object ca m
  no_repository n = λ fs h. let wrong : None ≡ Some h.repository = sym n ∙ h.repository_is in absurd cc

  module _ (folder : List ℕ) (named : ca.tbs.access.repository ≡ Some folder) where
    in_repository : (fs : List File) → AreFilesOf object ca m fs → AreFilesIn object folder m.files fs
    in_repository fs h =
        let both : Some h.repository ≡ Some folder = sym h.repository_is ∙ named in
        let same : h.repository ≡ folder = cc in
        subst (λ (r : List ℕ). AreFilesIn object r m.files fs) same h.listed

    -- What is said of that folder holds of its repository.
    pub files_told : {V E : Type 0} (items : V → List File) (r : Result (Option V) E)
        → IfOk r (λ found. MatchOption found (NoFilesIn object folder m.files) (λ v. AreFilesIn object folder m.files (items v)))
        → IfOk r (λ found. MatchOption found (NoFilesOf object ca m) (λ v. AreFilesOf object ca m (items v)))
    files_told items (Ok None) h = λ fs k. h fs (in_repository fs k)
    files_told items (Ok (Some v)) h = record { repository = folder; repository_is = named; listed = h }
    files_told items (Err e) h = tt

each_file : (w : World) (folder : List ℕ) (ls : List Listed) → Each (IsHeld w folder) ls → (fs : List File) × AreFilesIn w.object folder ls fs
each_file w folder [] h = ([], tt)
each_file w folder (l ∷ ls) h =
    let f : File = record { uri = join folder l.name; octets = h.0.octets } in
    let behind = each_file w folder ls h.1 in
    (f ∷ behind.0, (record { uri_is = refl; held = h.0.held }, behind.1))

pub files_there : (w : World) (ca : Cert) (m : Manifest) → HasFiles w ca m → (fs : List File) × AreFilesOf w.object ca m fs
files_there w ca m h =
    let fs = each_file w h.folder m.files h.each in
    (fs.0, record { repository = h.folder; repository_is = h.folder_is; listed = fs.1 })
