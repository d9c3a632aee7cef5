-- Readers of a value's content, whatever the value's tag.
use Rattle.std.specs.Prelude.{List, ℕ, Result}
use Rattle.bcder_content.specs.bcder_tree.declared.mode.Mode.{Mode}
use Rattle.bcder_content.specs.bcder_tree.Tags.{TagValue}
use Rattle.bcder_content.specs.bcder_tree.Tree.{Tree}
use Rattle.bcder_content.specs.bcder_source.declared.error.DecodeError.{DecodeError}
use Rattle.bcder_content.specs.declared.content.Content.{Content}
use Rattle.bcder_content.specs.Either.{ReadsContentAs, SameContent}
use Rattle.bcder_content.specs.Here.{here}

-- A value of any tag, by the grammar for that tag in the content's mode.
pub record ReadsTagged {A B S E : Type 0} (rest : S → List ℕ) (f : A → B)
    (P : Mode → TagValue → Tree → B → Type 0) (old : Content S) (r : Result A (DecodeError E))
    (new : Content S) : Type 0 where
  pub same : SameContent old new
  pub reads : (tag : TagValue)
      → ReadsContentAs rest f (P (here rest old.values.now).mode tag) tag old r new
