-- What is said of a point's files, by what their manifest lists.
use Rattle.std.proofs.Common.{◌≡◌, ◌∙◌, ℕ, List, [], ◌∷◌, map, Option, Some, refl, sym, ap, subst}
use Rattle.rpki_standing.specs.certs_basics.Paths.{join}
use Rattle.rpki_standing.specs.certs_basics.Uris.{lookup_key}
use Rattle.rpki_rules.specs.Objects.{File as Listed}
use Rattle.rpki_rules.specs.Points.{IsHeld, files_in}
use Rattle.rpki_rules.specs.Words.{Each}
use Rattle.rpki_rules.specs.World.{World}
use Rattle.rpki_steps.specs.declared.point.files.File.{File}
use Rattle.rpki_steps.specs.PointFiles.{AreFilesIn, FilesAreListed}
use Rattle.rpki_steps.specs.PointOctets.{FilesHaveHashes}

keys_in : (object : List ℕ → Option (List ℕ)) (folder : List ℕ) (ls : List Listed) (fs : List File) → AreFilesIn object folder ls fs
    → map (λ (f : File). lookup_key f.uri) fs ≡ map (λ (l : Listed). lookup_key (join folder l.name)) ls
keys_in object folder [] [] h = refl
keys_in object folder [] (f ∷ fs) h = absurd h
keys_in object folder (l ∷ ls) [] h = absurd h
keys_in object folder (l ∷ ls) (f ∷ fs) h =
    let first : lookup_key f.uri ≡ lookup_key (join folder l.name) = ap lookup_key h.0.uri_is in
    let others = keys_in object folder ls fs h.1 in
    λ i. first i ∷ others i

pub are_listed : FilesAreListed
are_listed object ca m fs h = keys_in object h.repository m.files fs h.listed ∙ ap (λ (r : Option (List ℕ)). files_in r m.files) (sym h.repository_is)

hashes_in : (w : World) (folder : List ℕ) (ls : List Listed) (fs : List File) → Each (IsHeld w folder) ls → AreFilesIn w.object folder ls fs
    → map (λ (f : File). w.digests.sha256 f.octets) fs ≡ map (λ (l : Listed). l.hash) ls
hashes_in w folder [] [] e h = refl
hashes_in w folder [] (f ∷ fs) e h = absurd h
hashes_in w folder (l ∷ ls) [] e h = absurd h
hashes_in w folder (l ∷ ls) (f ∷ fs) e h =
    let there : w.object (lookup_key (join folder l.name)) ≡ Some f.octets = subst (λ (u : List ℕ). w.object (lookup_key u) ≡ Some f.octets) h.0.uri_is h.0.held in
    let both : Some f.octets ≡ Some e.0.octets = sym there ∙ e.0.held in
    let same : f.octets ≡ e.0.octets = cc in
    let first : w.digests.sha256 f.octets ≡ l.hash = ap w.digests.sha256 same ∙ e.0.hash in
    let others = hashes_in w folder ls fs e.1 h.1 in
    λ i. first i ∷ others i

pub have_hashes : FilesHaveHashes
have_hashes w ca p found is told =
    let h = is.files in
    let a = told.files_are in
    let both : Some a.repository ≡ Some h.folder = sym a.repository_is ∙ h.folder_is in
    let same : a.repository ≡ h.folder = cc in
    hashes_in w h.folder p.manifest.files found.files.items h.each (subst (λ (r : List ℕ). AreFilesIn w.object r p.manifest.files found.files.items) same a.listed)
