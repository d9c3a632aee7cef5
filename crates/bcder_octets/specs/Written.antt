-- What is written of a string.
use Rattle.std.specs.Prelude.{◌≡◌, ℕ, List}
use Rattle.bcder_octets.specs.bcder_tree.declared.mode.Mode.{Mode}
use Rattle.bcder_octets.specs.bcder_tree.Tags.{TagValue}
use Rattle.bcder_octets.specs.bcder_tree.Tree.{Tree, Trees, none, more}
use Rattle.bcder_octets.specs.bcder_tree.Strings.{IsString}

-- The values are one, which is a string of these octets.
pub record WrittenString (m : Mode) (tag : TagValue) (octets : List ℕ) (ts : Trees) : Type 0 where
  pub tree : Tree
  pub alone : ts ≡ more tree none
  pub is : IsString m tag tree octets
