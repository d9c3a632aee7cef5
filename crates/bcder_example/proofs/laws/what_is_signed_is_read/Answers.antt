use Rattle.bcder_example.proofs.of_bcder_values.Returning.{read_again}
use Rattle.bcder_example.specs.bcder_values.Forms.{written_again}
use Rattle.bcder_example.specs.Signed.{signed, signed_fields}
use Rattle.bcder_example.proofs.laws.what_is_signed_is_read.Goals as goal

pub returns : goal.returns
returns c = λ s m text l w. read_again m text (written_again signed ((tt, tt), (tt, tt)) (signed_fields s) m text l w)
