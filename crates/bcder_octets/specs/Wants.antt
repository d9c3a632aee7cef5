-- Where a reader of a string may want memory: its octets in one piece are all there, or it has segments, which are joined.
use Rattle.std.specs.Prelude.{◌≡◌, ℕ, true, List}
use Rattle.bcder_octets.specs.bcder_tree.declared.mode.Mode.{Mode}
use Rattle.bcder_octets.specs.bcder_tree.declared.mode.Mode.TheVariants.{Der}
use Rattle.bcder_octets.specs.bcder_tree.Tags.{TagValue}
use Rattle.bcder_octets.specs.bcder_content.declared.ending.Span.{Span}
use Rattle.bcder_octets.specs.bcder_content.Contents.{ValuesLeft}
use Rattle.bcder_octets.specs.bcder_content.declared.content.Content.{Content}
use Rattle.bcder_octets.specs.bcder_content.Either.{form_in, left_of}
use Rattle.bcder_octets.specs.bcder_content.Grammar.{OctetsOf}
use Rattle.bcder_octets.specs.bcder_content.ClosureReads.{Enters}
use Rattle.bcder_values.specs.bcder_content.Ahead.{HasPrimitive, HasNext}

-- Content octets in a mode, and the string that they are.
abbrev pub Piece : Type 1
Piece = Mode → List ℕ → List ℕ → Type 0

-- On the content of a value: of strings in one piece by a grammar, or in segments, which DER lacks (X.690 10.2).
pub data WantsString {S : Type 0} (P : Piece) (rest : S → List ℕ) (c : Content S) : Type 0 where
  in_one : HasPrimitive rest (P (left_of rest c).mode) c → WantsString P rest c
  in_parts : form_in c ≡ true → ((left_of rest c).mode ≡ Der → ⊥) → WantsString P rest c

-- On the next value, which has that tag.
pub data WantsNext (P : Piece) (tag : TagValue) (old : ValuesLeft) : Type 0 where
  next_in_one : HasNext (OctetsOf tag (P old.mode)) old → WantsNext P tag old
  next_in_parts : (span : Span) (inner : ValuesLeft) → Enters old true tag span inner
      → (old.mode ≡ Der → ⊥) → WantsNext P tag old
