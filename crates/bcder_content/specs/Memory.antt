-- Lack of memory: what a closure answers, and no read of its own.
use Rattle.std.specs.Prelude.{ℕ, Bool, List, Err}
use Rattle.bcder_content.specs.bcder_source.declared.error.DecodeError.{DecodeError}
pub use Rattle.bcder_content.specs.bcder_source.Errors.{OnMemory}
use Rattle.bcder_content.specs.bcder_tree.Tags.{TagValue}
use Rattle.bcder_content.specs.declared.ending.Span.{Span}
use Rattle.bcder_content.specs.declared.constructed.Constructed.{Constructed}
use Rattle.bcder_primitive.specs.declared.primitive.Primitive.{Primitive}
use Rattle.bcder_content.specs.Contents.{OctetsLeft, ValuesLeft}
use Rattle.bcder_content.specs.ClosureReads.{Reader, ClosureReadsOn, PlainClosureReadsOn, ClosureReadsIn}
use Rattle.bcder_content.specs.Either.{Meeting, ClosureReadsAny}

-- The closure was given the values of the value in front, and answered that error.
pub record ClosureReadsErr {F S T E : Type 0} (rest : S → List ℕ) (g : Reader F (Constructed S) T E)
    (op : F) (old : ValuesLeft) (tag : TagValue) (e : DecodeError E) : Type 0 where
  pub span : Span
  pub end : ValuesLeft
  pub ran : ClosureReadsOn rest g op old tag span (Err e) end

-- The closure was given the octets of the value in front, and answered that error.
pub record PlainErr {F S T E : Type 0} (rest : S → List ℕ) (g : Reader F (Primitive S) T E) (op : F)
    (old : ValuesLeft) (tag : TagValue) (e : DecodeError E) : Type 0 where
  pub span : Span
  pub end : OctetsLeft
  pub ran : PlainClosureReadsOn rest g op old tag span (Err e) end

-- The closure was given the content of the value in front, and answered that error.
pub record AnyErr {T E : Type 0} (meets : Meeting T E) (old : ValuesLeft) (e : DecodeError E)
    : Type 0 where
  pub form : Bool
  pub tag : TagValue
  pub span : Span
  pub end : ValuesLeft
  pub ran : ClosureReadsAny meets old form tag span (Err e) end

-- The same of the value in front that has that tag.
pub record TaggedErr {T E : Type 0} (meets : Meeting T E) (old : ValuesLeft) (tag : TagValue)
    (e : DecodeError E) : Type 0 where
  pub form : Bool
  pub span : Span
  pub end : ValuesLeft
  pub ran : ClosureReadsAny meets old form tag span (Err e) end

-- The closure was given the content of a source, and answered that error.
pub record InErr {F S T E : Type 0} (rest : S → List ℕ) (g : Reader F (Constructed S) T E) (op : F)
    (v : ValuesLeft) (e : DecodeError E) : Type 0 where
  pub end : ValuesLeft
  pub ran : ClosureReadsIn rest g op v (Err e) end
