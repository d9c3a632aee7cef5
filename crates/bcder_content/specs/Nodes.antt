-- The values of a tree, each before those that it holds.
use Rattle.std.specs.Prelude.{ℕ, ◌+◌, Bool, true, false, List, [], ◌∷◌, ◌++◌}
use Rattle.bcder_content.specs.bcder_tree.Tags.{TagValue}
use Rattle.bcder_content.specs.bcder_tree.Tree.{Tree, Trees, primitive, constructed, none, more}

-- A value's tag, whether it is constructed, and how many values it lies in.
pub record Node : Type 0 where
  pub tag : TagValue
  pub form : Bool
  pub depth : ℕ

abbrev mutual
  pub nodes : ℕ → Tree → List Node
  nodes depth (primitive t v) = record { tag = t; form = false; depth = depth } ∷ []
  nodes depth (constructed t ts) =
      record { tag = t; form = true; depth = depth } ∷ nodes_all (depth + 1) ts

  pub nodes_all : ℕ → Trees → List Node
  nodes_all depth none = []
  nodes_all depth (more t ts) = nodes depth t ++ nodes_all depth ts
