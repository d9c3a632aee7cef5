-- Readers of a content in the mode that it has: their grammars take the mode as the first argument.
use Rattle.std.specs.Prelude.{Result}
use Rattle.bcder_content.specs.bcder_tree.declared.mode.Mode.{Mode}
use Rattle.bcder_content.specs.bcder_tree.Tree.{Trees}
use Rattle.bcder_content.specs.bcder_source.declared.error.DecodeError.{DecodeError}
use Rattle.bcder_content.specs.Contents.{ValuesLeft}
use Rattle.bcder_content.specs.Exact.{ReadsAllAs}

-- A reader of a whole content, whose end is tested afterwards.
pub record ReadsFields {A B E : Type 0} (f : A → B) (P : Mode → Trees → B → Type 0)
    (old : ValuesLeft)
    (r : Result A (DecodeError E)) (new : ValuesLeft) : Type 0 where
  pub reads : ReadsAllAs f (P old.mode) old r new
