-- What stands in front of octets: a tree, or a header and the content after it.
use Rattle.std.specs.Prelude.{◌≡◌, ℕ, Bool, List, ◌++◌, length}
use Rattle.bcder_tree.specs.declared.mode.Mode.{Mode}
use Rattle.bcder_tree.specs.Tags.{TagValue}
use Rattle.bcder_tree.specs.Tree.{Tree, Trees, IsHeader, Spells, SpellsAll}

-- Some prefix of the octets spells the tree, and `rest` comes after it.
pub record Front (m : Mode) (octets : List ℕ) (t : Tree) (rest : List ℕ) : Type 0 where
  pub text : List ℕ
  pub spelled : Spells m t text
  pub whole : octets ≡ text ++ rest

-- The octets, all of them, spell these trees, one after the other.
pub record Fields (m : Mode) (octets : List ℕ) (ts : Trees) : Type 0 where
  pub spelled : SpellsAll m ts octets

-- A header of definite length, as many content octets as it says, and what comes after them.
pub record Splits (m : Mode) (octets : List ℕ) (form : Bool) (t : TagValue)
    (content behind : List ℕ) : Type 0 where
  pub header : List ℕ
  pub header_is : IsHeader m header form t (length content)
  pub whole : octets ≡ header ++ (content ++ behind)
