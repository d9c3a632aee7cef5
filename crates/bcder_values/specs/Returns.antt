-- What was written, read again.
use Rattle.std.specs.Prelude.{◌≡◌, ℕ, List}
use Rattle.bcder_values.specs.bcder_tree.declared.mode.Mode.{Mode}
use Rattle.bcder_values.specs.bcder_tree.Tree.{Trees, SpellsAll}
use Rattle.bcder_content.specs.Contents.{Whole}
use Rattle.bcder_content.specs.ClosureReads.{fresh}

-- A source with these octets, read from its beginning, has values of T and ends after them.
pub record ReadAgain (m : Mode) (T : Trees → Type 0) (text : List ℕ) : Type 0 where
  pub trees : Trees
  pub is : T trees
  pub whole : Whole (fresh m text) trees

-- The octets spell values of T, and no others do.
pub record WrittenAlone (m : Mode) (T : Trees → Type 0) (text : List ℕ) : Type 0 where
  pub trees : Trees
  pub is : T trees
  pub spelled : SpellsAll m trees text
  pub alone : (other : List ℕ) → SpellsAll m trees other → other ≡ text
