-- The grammar of versions.
use Rattle.std.specs.Prelude.{ℕ, ◌^◌}
use Rattle.bcder_example.specs.bcder_tree.declared.mode.Mode.{Mode}
use Rattle.bcder_example.specs.bcder_tree.Tags.{integer_tag, sequence_tag}
use Rattle.bcder_example.specs.bcder_tree.Tree.{Tree, Trees}
use Rattle.bcder_example.specs.bcder_content.Grammar.{Inside, OctetsOf, End, Then}
use Rattle.bcder_example.specs.bcder_primitive.Values.{IsUnsigned}

-- INTEGER (0..255)
abbrev pub IsSmall : Tree → ℕ → Type 0
IsSmall = OctetsOf integer_tag (IsUnsigned (2 ^ 8))

-- Two numbers.
abbrev pub Numbers : Type 0
Numbers = ℕ × (ℕ × Unit {0})

-- Version ::= SEQUENCE { major INTEGER, minor INTEGER }
abbrev pub IsVersionBody : Mode → Trees → Numbers → Type 0
IsVersionBody m = Then IsSmall (Then IsSmall End)

abbrev pub IsVersion : Tree → Numbers → Type 0
IsVersion = Inside sequence_tag (Then IsSmall (Then IsSmall End))

-- The numbers of a pair.
abbrev pub pair_fields : ℕ × ℕ → Numbers
pair_fields v = (v.0, (v.1, tt))
