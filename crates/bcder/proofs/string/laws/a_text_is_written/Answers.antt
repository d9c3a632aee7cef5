use Rattle.bcder_octets.proofs.Written.{written_string}
use Rattle.bcder.proofs.string.laws.a_text_is_written.Goals as goal

pub returns : goal.returns
returns g c = λ m tag octets ts text trees.
    let w = written_string m tag octets ts trees in
    record { tree = w.tree; alone = w.alone; is = record { is = w.is; meets = text } }
