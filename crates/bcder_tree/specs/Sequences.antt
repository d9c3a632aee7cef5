-- SEQUENCE (X.690 8.9).
use Rattle.std.specs.Prelude.{List, [], ◌∷◌}
pub use Rattle.bcder_tree.specs.Tags.{sequence_tag}
use Rattle.bcder_tree.specs.Tree.{Tree, Trees, constructed, none, more}

-- These trees, in this order.
abbrev pub forest : List Tree → Trees
forest [] = none
forest (t ∷ ts) = more t (forest ts)

-- SEQUENCE { .. } of these trees (8.9).
abbrev pub sequence : List Tree → Tree
sequence ts = constructed sequence_tag (forest ts)
