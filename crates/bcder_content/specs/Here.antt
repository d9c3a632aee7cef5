-- What contracts see of a content.
use Rattle.std.specs.Prelude.{◌≡◌, ℕ, List}
use Rattle.bcder_content.specs.declared.constructed.Constructed.{Constructed}
use Rattle.bcder_content.specs.Contents.{ValuesLeft}
pub use Rattle.bcder_primitive.specs.Plain.{plain}

-- What is left of a content of values, by the rest of its source.
abbrev pub here : {S : Type 0} → (S → List ℕ) → Constructed S → ValuesLeft
here rest c = record {
  mode = c.octets.mode;
  end = c.end;
  failed = c.octets.failed;
  rest = rest c.octets.source.source;
  limit = c.octets.source.limit;
}

-- Where a content begins, by the count of its source's octets: for messages alone.
abbrev pub start_of : {S : Type 0} → Constructed S → ℕ
start_of c = c.octets.start

-- It is the same content: of values or of the octets of a primitive value, and from the same beginning.
pub record SameFrame {S : Type 0} (old new : Constructed S) : Type 0 where
  pub form : new.constructed ≡ old.constructed
  pub start : start_of new ≡ start_of old
