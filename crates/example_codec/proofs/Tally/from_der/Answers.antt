use Rattle.std.proofs.Common.{subst}
use Rattle.example_codec.specs.bcder_tree.declared.mode.Mode.{Mode}
use Rattle.example_codec.specs.bcder_content.Captures.{rest_of}
use Rattle.example_codec.specs.bcder_content.Exact.{ReadsAs}
use Rattle.example_codec.specs.bcder_content.Here.{here}
use Rattle.bcder.proofs.of_bcder_content.Decoding.{exact_decode}
use Rattle.example_codec.specs.Tallies.{tally, tally_fields}
use Rattle.example_codec.proofs.Tally.from_der.Goals as goal

pub returns : goal.returns
returns c = exact_decode (record { each = λ p q r e h. subst (λ (m : Mode). ReadsAs tally_fields (tally.reads m) (here rest_of p.now) r (here rest_of q.now)) e h }) c.decode.ensures.decoded
