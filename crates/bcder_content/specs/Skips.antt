-- Skipping values of a content, while a visitor is given each value in them.
use Rattle.std.specs.Prelude.{◌≡◌, Result, Ok, Err, Option, Some, None}
use Rattle.bcder_content.specs.bcder_source.declared.error.ContentError.{ContentError}
use Rattle.bcder_content.specs.bcder_source.declared.error.DecodeError.{DecodeError}
use Rattle.bcder_content.specs.bcder_tree.Tree.{Tree, Trees}
use Rattle.bcder_content.specs.Nodes.{nodes}
use Rattle.bcder_content.specs.Contents.{ValuesLeft, Took, TookAll, Ahead, Ended, Whole}
pub use Rattle.bcder_content.specs.SkipValues.{Visits, Accepts, Refuses, OnError, Skips, Stops}

-- The next value was read, and the visitor accepted it and the values in it.
pub record SkipsNext {F : Type 0} (step : Visits F) (p : F) (old new : ValuesLeft) : Type 0 where
  pub tree : Tree
  pub took : Took old tree new
  pub last : F
  pub accepted : Accepts step p (nodes 0 tree) last

-- If a value is next, the visitor refuses it or one in it.
pub record StopsNext {F : Type 0} (step : Visits F) (p : F) (old : ValuesLeft)
    (error : ContentError) : Type 0 where
  pub refused : (t : Tree) → Ahead old t → Refuses step p (nodes 0 t) error

-- The next value is skipped, if there is one.
abbrev pub SkipsOpt : {F E : Type 0} → Visits F → F → ValuesLeft
    → Result (Option (Unit {0})) (DecodeError E) → ValuesLeft → Type 0
SkipsOpt step p old (Ok (Some x)) new = SkipsNext step p old new
SkipsOpt step p old (Ok None) new = (new ≡ old) × Ended old
SkipsOpt step p old (Err e) new = OnError e (λ error. StopsNext step p old error × (Ended old → ⊥))

-- All values that are left were read.
pub record SkipsAll (old new : ValuesLeft) : Type 0 where
  pub trees : Trees
  pub took : TookAll old trees new
  pub ended : Ended new

-- What is left isn't values up to the end of the content.
pub record NotWhole (old : ValuesLeft) : Type 0 where
  pub none : (ts : Trees) → Whole old ts → ⊥
