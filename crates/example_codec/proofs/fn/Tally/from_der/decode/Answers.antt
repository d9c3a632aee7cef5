use Rattle.bcder.proofs.of_bcder_content.InMode.{inside}
use Rattle.example_codec.specs.Tallies.{tally_body}
use Rattle.example_codec.proofs.fn.Tally.from_der.decode.Goals as goal

pub returns : goal.returns
returns c = inside {P = tally_body.reads} (record { each = λ p q r h. h }) c.take_sequence.ensures.ran
