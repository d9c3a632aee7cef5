-- Readers of a value that may be next, whatever its tags: a CHOICE that is OPTIONAL, or those of a SEQUENCE OF a CHOICE.
use Rattle.std.specs.Prelude.{◌≡◌, false, Result, Ok, Err, Option, Some, None}
use Rattle.bcder_content.specs.bcder_tree.Tree.{Tree}
use Rattle.bcder_content.specs.bcder_source.Errors.{OnContent}
use Rattle.bcder_content.specs.bcder_source.declared.error.DecodeError.{DecodeError}
use Rattle.bcder_content.specs.Contents.{ValuesLeft, Ended}
use Rattle.bcder_content.specs.Exact.{Gives, Lacks}

-- No value of the grammar is next, and no read of the content was refused.
pub record NoneNext {A : Type 0} (P : Tree → A → Type 0) (old : ValuesLeft) : Type 0 where
  pub sound : old.failed ≡ false
  pub lacks : Lacks P old

-- A value of the grammar is next, or none; only where a value that isn't of it is next may it be refused.
abbrev pub ReadsIfAs : {A B E : Type 0} → (A → B) → (Tree → B → Type 0) → ValuesLeft
    → Result (Option A) (DecodeError E) → ValuesLeft → Type 0
ReadsIfAs f P old (Ok (Some x)) new = Gives P old (f x) new
ReadsIfAs f P old (Ok None) new = (new ≡ old) × NoneNext P old
ReadsIfAs f P old (Err e) new = OnContent e (Lacks P old × (Ended old → ⊥))
