-- What the parts of a reading say.
use Rattle.std.specs.Prelude.{◌≡◌, Bool, false}
use Rattle.bcder_content.specs.bcder_tree.declared.mode.Mode.{Mode}
use Rattle.bcder_content.specs.bcder_tree.Tags.{TagValue}
use Rattle.bcder_content.specs.bcder_tree.Tree.{Tree}
use Rattle.bcder_content.specs.bcder_source.declared.pos.Pos.{Pos}
use Rattle.bcder_content.specs.bcder_source.declared.error.ContentError.TheVariants.{ExpectedTag}
use Rattle.bcder_content.specs.bcder_source.declared.error.DecodeError.{DecodeError}
use Rattle.bcder_content.specs.bcder_source.declared.error.DecodeError.TheVariants.{Content}
use Rattle.bcder_content.specs.bcder_source.Views.{View}
use Rattle.bcder_content.specs.declared.ending.Ending.{Ending}
use Rattle.bcder_content.specs.declared.ending.Span.{Span}
use Rattle.bcder_content.specs.Contents.{ValuesLeft, octets, Ahead, EndsHere, tag_of}
use Rattle.bcder_content.specs.Openings.{Closes, ending_of}

-- No value is next.
pub record NoneAhead (v : ValuesLeft) : Type 0 where
  pub none : (t : Tree) → Ahead v t → ⊥

-- Where a value of another tag is next, the refusal names the tag that was expected.
pub record NamesTag {E : Type 0} (v : ValuesLeft) (tag : TagValue) (e : DecodeError E)
    : Type 0 where
  pub names : (t : Tree) → Ahead v t → (tag_of t ≡ tag → ⊥) → (pos : Pos)
      × (e ≡ Content (ExpectedTag tag) pos)

-- The content was left, and what is around it is as it was.
pub record LeftBy (span : Span) (mode : Mode) (end : Ending) (old new : ValuesLeft) : Type 0 where
  pub closes : Closes span (octets old) (octets new)
  pub mode_is : new.mode ≡ mode
  pub end_is : new.end ≡ end
  pub sound : old.failed ≡ false
  pub behind : new.failed ≡ false

-- The content can't be left: a read of it was refused, or it goes on.
pub record EndsUnread (span : Span) (failed : Bool) (v : View) : Type 0 where
  pub goes_on : failed ≡ false → EndsHere (ending_of span) v → ⊥
