-- What is still to come after a place within values: by the values around it, from the innermost on.
use Rattle.std.specs.Prelude.{◌≡◌, ℕ, List, [], ◌∷◌, ◌++◌, length}
use Rattle.bcder_content.specs.bcder_tree.declared.mode.Mode.{Mode}
use Rattle.bcder_content.specs.bcder_tree.Tree.{Tree, Trees, Spells, SpellsAll}
use Rattle.bcder_source.specs.Views.{View, Moved}
use Rattle.bcder_content.specs.declared.ending.Span.{Span}
use Rattle.bcder_content.specs.Openings.{Closes}
use Rattle.bcder_content.specs.Nodes.{Node, nodes, nodes_all}

-- The rest of the content of one value, its end, and after that K; these nodes are to come.
pub record Level (m : Mode) (depth : ℕ) (span : Span) (K : View → List Node → Type 0) (v : View)
    (ns : List Node) : Type 0 where
  pub trees : Trees
  pub text : List ℕ
  pub middle : View
  pub end : View
  pub later : List Node
  pub spelled : SpellsAll m trees text
  pub moved : Moved v text middle
  pub closes : Closes span middle end
  pub visits : ns ≡ nodes_all depth trees ++ later
  pub after : K end later

-- A value, and after that K.
pub record Value (m : Mode) (depth : ℕ) (K : View → List Node → Type 0) (v : View) (ns : List Node)
    : Type 0 where
  pub tree : Tree
  pub text : List ℕ
  pub behind : View
  pub later : List Node
  pub spelled : Spells m tree text
  pub moved : Moved v text behind
  pub visits : ns ≡ nodes depth tree ++ later
  pub after : K behind later

-- The ends of these values, the innermost first, and then the place `final`.
abbrev pub Wants : Mode → List Span → View → View → List Node → Type 0
Wants m [] final v ns = (v ≡ final) × (ns ≡ [])
Wants m (span ∷ spans) final v ns = Level m (length (span ∷ spans)) span (Wants m spans final) v ns

-- Nodes that begin with those that were seen, and of the others Q.
pub record Behind (seen : List Node) (Q : List Node → Type 0) (ns : List Node) : Type 0 where
  pub others : List Node
  pub whole : ns ≡ seen ++ others
  pub is : Q others

-- A step that sees these nodes: P before it is Q after it.
pub record Reaches (P : List Node → Type 0) (seen : List Node) (Q : List Node → Type 0)
    : Type 0 where
  pub to : (ns : List Node) → P ns → Behind seen Q ns
  pub from : (ns : List Node) → Q ns → P (seen ++ ns)
