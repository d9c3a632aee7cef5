-- Skipping a value, while a visitor is given each value in it.
use Rattle.std.specs.Prelude.{◌≡◌, ℕ, Bool, List, ◌∷◌, ◌++◌, Result, Ok, Err}
use Rattle.std.specs.List.{FoldsTo}
use Rattle.bcder_content.specs.bcder_tree.declared.mode.Mode.{Mode}
use Rattle.bcder_source.specs.declared.error.ContentError.{ContentError}
use Rattle.bcder_source.specs.declared.error.DecodeError.{DecodeError}
use Rattle.bcder_source.specs.declared.error.DecodeError.TheVariants.{Content, Source, Memory}
use Rattle.bcder_content.specs.bcder_tree.Tags.{TagValue}
use Rattle.bcder_content.specs.bcder_tree.Tree.{Tree, Spells}
use Rattle.bcder_content.specs.bcder_tree.Front.{Front}
use Rattle.bcder_source.specs.Views.{View, left, Moved}
use Rattle.bcder_content.specs.Nodes.{Node, nodes}

-- How a visitor answers: by its state, a value's tag, form and depth, its answer, and its state then.
abbrev pub Visits : Type 0 → Type 1
Visits F = F → TagValue → Bool → ℕ → Result (Unit {0}) ContentError → F → Type 0

-- The visitor accepts these nodes, one after the other.
abbrev pub Accepts : {F : Type 0} → Visits F → F → List Node → F → Type 0
Accepts step p ns q = FoldsTo (λ a n b. step a n.tag n.form n.depth (Ok tt) b) p ns q

-- The visitor refuses one of these nodes with that error, and accepts those before it.
pub record Refuses {F : Type 0} (step : Visits F) (p : F) (ns : List Node) (error : ContentError)
    : Type 0 where
  pub done : List Node
  pub node : Node
  pub others : List Node
  pub before : F
  pub after : F
  pub whole : ns ≡ done ++ (node ∷ others)
  pub accepted : Accepts step p done before
  pub refused : step before node.tag node.form node.depth (Err error) after

-- A fact of the error, for the refusal of the octets themselves.
abbrev pub OnError : {E : Type 0} → DecodeError E → (ContentError → Type 0) → Type 0
OnError (Content error pos) fact = fact error
OnError (Source error) fact = Unit {0}
OnError Memory fact = Unit {0}

-- A value stood in front and was read, and the visitor accepted it and the values in it.
pub record Skips {F : Type 0} (m : Mode) (step : Visits F) (p : F) (old new : View) : Type 0 where
  pub tree : Tree
  pub text : List ℕ
  pub spelled : Spells m tree text
  pub moved : Moved old text new
  pub last : F
  pub accepted : Accepts step p (nodes 0 tree) last

-- If a value is in front, in so many others, the visitor refuses it or one in it.
pub record Stops {F : Type 0} (m : Mode) (depth : ℕ) (step : Visits F) (p : F) (v : View)
    (error : ContentError) : Type 0 where
  pub refused : (t : Tree) (rest : List ℕ) → Front m (left v) t rest
      → Refuses step p (nodes depth t) error
