-- Octets that were captured.
use Rattle.std.specs.Prelude.{ℕ, List}
use Rattle.bcder_content.specs.bcder_tree.declared.mode.Mode.{Mode}
use Rattle.bcder_content.specs.bcder_tree.Tree.{Trees, SpellsAll}

-- The octets, and in which mode they spell values.
pub record CapturedValue : Type 0 where
  pub mode : Mode
  pub octets : List ℕ

-- They spell values, one after the other.
pub record SpellsValues (m : Mode) (octets : List ℕ) : Type 0 where
  pub trees : Trees
  pub spelled : SpellsAll m trees octets
