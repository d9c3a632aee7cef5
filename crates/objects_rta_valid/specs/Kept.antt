-- What is kept of paths: of each its first place and how many it has, beside a table of what follows each place.
use Rattle.std.specs.Prelude.{◌≡◌, ◌≢◌, ℕ, ◌<◌, List, [], All, length, map}
use Rattle.objects_rta_valid.specs.OnPaths.{some_has}
use Rattle.objects_rta_valid.specs.Runs.{known_at, walk}
use Rattle.objects_rta_valid.specs.declared.paths.lengths.Length.{Length}
use Rattle.objects_rta_valid.specs.declared.paths.lengths.Start.{Start}
use Rattle.objects_rta_valid.specs.declared.paths.table.Found.{Found}

abbrev pub paths_of : List Found → List Start → List (List ℕ)
paths_of steps starts = map (λ start. walk steps start.count start.first) starts

-- Each path has a place, its places are those of certificates, and a place has a length exactly where it is on a path.
pub record Kept (steps : List Found) (lengths : List Length) (paths : List (List ℕ)) : Type 0 where
  pub size : length lengths ≡ length steps
  pub some : All (λ path. path ≢ []) paths
  pub inside : All (λ path. All (λ place. place < length steps) path) paths
  pub on : (place : ℕ) → some_has paths place ≡ known_at lengths place
