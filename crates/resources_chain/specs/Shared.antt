-- What a shared chain shows.
use Rattle.std.specs.Prelude.{Option, List, []}
use Rattle.std.specs.Option.{option_map_or}
use Rattle.std.specs.declared.alloc.Global.{Global}
use Rattle.std.specs.declared.rc.Rc.{Rc}
use Rattle.resources_chain.specs.Sets.{Run}

-- The runs of a chain that is shared; where there is none, no runs.
abbrev pub shared_runs : Option (Rc (List Run) Global) → List Run
shared_runs o = option_map_or (λ rc. rc.value) o []
