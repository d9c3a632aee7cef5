-- What following a path comes to.
use Rattle.std.specs.Prelude.{ℕ, ◌<◌, ◌≤◌, ◌+◌, List, All, length}
use Rattle.objects_rta_valid.specs.Runs.{AreFresh, AreUnderway}
use Rattle.objects_rta_valid.specs.declared.paths.lengths.Fresh.{Fresh}
use Rattle.objects_rta_valid.specs.declared.paths.lengths.Length.{Length}
use Rattle.objects_rta_valid.specs.declared.paths.table.Found.{Found}

pub record IsFollowed (steps : List Found) (old new : List Length) (first : ℕ)
    (fresh : Fresh) : Type 0 where
  pub fresh_are : AreFresh steps old first fresh.places.items fresh.before fresh.behind
  pub underway : AreUnderway old new fresh.places.items
  pub inside : All (λ place. place < length steps) fresh.places.items
  pub few : fresh.behind + fresh.before ≤ length steps
