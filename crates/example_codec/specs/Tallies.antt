-- Tallies: SEQUENCE { station INTEGER (0..65535), count INTEGER (0..18446744073709551615) }.
use Rattle.std.specs.Prelude.{ℕ, List, ◌^◌}
use Rattle.example_codec.specs.bcder_tree.declared.mode.Mode.TheVariants.{Der}
use Rattle.example_codec.specs.bcder_tree.Tags.{sequence_tag}
use Rattle.example_codec.specs.bcder_content.Grammar.{End, Then}
use Rattle.example_codec.specs.bcder_values.Forms.{Form, Forms, both, last, wrapped}
use Rattle.example_codec.specs.bcder_values.Returns.{ReadAgain}
use Rattle.bcder.specs.Kinds.{unsigned}
use Rattle.example_codec.specs.declared.Tally.{Tally}

abbrev pub Fields : Type 0
Fields = ℕ × (ℕ × Unit {0})

abbrev pub tally_fields : Tally → Fields
tally_fields t = (t.station, (t.count, tt))

-- The form of the fields, a line each of the ASN.1: what is read, what is written, and the laws of both follow from it.
abbrev pub tally_body : Forms Fields
tally_body = both (unsigned (2 ^ 16)) (last (unsigned (2 ^ 64)))

abbrev pub tally : Form Fields
tally = wrapped sequence_tag tally_body

-- The octets are read as this tally, and nothing after it.
abbrev pub IsReadAgain : Fields → List ℕ → Type 0
IsReadAgain fields text =
    ReadAgain Der (λ ts. Then (tally.reads Der) End ts (fields, tt)) text
