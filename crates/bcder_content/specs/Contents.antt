-- Contents that are read: what is left of them, and which values are next (X.690 8.1).
use Rattle.std.specs.Prelude.{◌≡◌, ◌⊎◌, ℕ, Bool, false, List, Option}
use Rattle.bcder_content.specs.bcder_tree.declared.mode.Mode.{Mode}
use Rattle.bcder_content.specs.bcder_tree.Tags.{TagValue}
use Rattle.bcder_content.specs.bcder_tree.Tree.{Tree, Trees, Spells, SpellsAll}
use Rattle.bcder_content.specs.bcder_source.Views.{View, Moved, left}
use Rattle.bcder_content.specs.declared.ending.Ending.{Ending}
use Rattle.bcder_content.specs.Openings.{OfOther, NoTag}
pub use Rattle.bcder_content.specs.Openings.{EndsHere, tag_of, form_of}
pub use Rattle.bcder_primitive.specs.Plain.{OctetsLeft}

-- What is left of a content of values: the same as of octets, and how it ends.
pub record ValuesLeft : Type 0 where
  pub mode : Mode
  pub end : Ending
  pub failed : Bool
  pub rest : List ℕ
  pub limit : Option ℕ

-- The octets of a content of values.
abbrev pub octets : ValuesLeft → View
octets v = record { rest = v.rest; limit = v.limit }

-- These octets were read, and no read was refused; mode and ending are as they were.
pub record Goes (old : ValuesLeft) (text : List ℕ) (new : ValuesLeft) : Type 0 where
  pub moved : Moved (octets old) text (octets new)
  pub mode : new.mode ≡ old.mode
  pub end : new.end ≡ old.end
  pub before : old.failed ≡ false
  pub behind : new.failed ≡ false

-- A value was read, which was next.
pub record Took (old : ValuesLeft) (t : Tree) (new : ValuesLeft) : Type 0 where
  pub text : List ℕ
  pub spelled : Spells old.mode t text
  pub goes : Goes old text new

-- Values were read, which were next.
pub record TookAll (old : ValuesLeft) (ts : Trees) (new : ValuesLeft) : Type 0 where
  pub text : List ℕ
  pub spelled : SpellsAll old.mode ts text
  pub goes : Goes old text new

-- The value is next.
abbrev pub Ahead : ValuesLeft → Tree → Type 0
Ahead v t = (w : ValuesLeft) × Took v t w

-- No value is left of the content, and no read of it was refused.
pub record Ended (v : ValuesLeft) : Type 0 where
  pub sound : v.failed ≡ false
  pub ends : EndsHere v.end (octets v)

-- All that is left of the content are these values.
pub record Whole (v : ValuesLeft) (ts : Trees) : Type 0 where
  pub behind : ValuesLeft
  pub took : TookAll v ts behind
  pub ended : Ended behind

-- No value of that tag is next, and no read was refused: the content has ended, or the next identifier octets are of
-- another tag.
pub record Unlike (v : ValuesLeft) (tag : TagValue) : Type 0 where
  pub sound : v.failed ≡ false
  pub none : (t : Tree) → Ahead v t → tag_of t ≡ tag → ⊥
  pub other : Ended v ⊎ OfOther tag (left (octets v))

-- There are octets, but no identifier octets of a value; or a read was refused before.
pub record Untold (v : ValuesLeft) : Type 0 where
  pub goes_on : Ended v → ⊥
  pub none : v.failed ≡ false → NoTag (left (octets v))
