-- What is written of a tally is read again.
use Rattle.std.proofs.Common.{Result, Ok, Err, IfOk}
use Rattle.example_codec.specs.bcder_tree.declared.mode.Mode.TheVariants.{Der}
use Rattle.example_codec.specs.bcder_content.Kept.{CapturedValue}
use Rattle.example_codec.specs.bcder_values.Forms.{written_again}
use Rattle.bcder.proofs.of_bcder_values.Returning.{read_again}
use Rattle.example_codec.specs.Tallies.{Fields, IsReadAgain, tally}

pub again_of : {E : Type 0} (t : Fields) (r : Result CapturedValue E)
    → IfOk r (λ c. tally.writes t Der c.octets) → IfOk r (λ c. IsReadAgain t c.octets)
again_of t (Ok c) w = read_again Der c.octets (written_again tally (tt, tt) t Der c.octets (tt, tt) w)
again_of t (Err e) w = w
