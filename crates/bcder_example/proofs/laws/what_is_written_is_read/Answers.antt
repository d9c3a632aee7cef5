use Rattle.bcder_example.proofs.of_bcder_values.Returning.{read_again}
use Rattle.bcder_example.specs.bcder_values.Forms.{written_again}
use Rattle.bcder_example.specs.Notices.{notice, notice_fields}
use Rattle.bcder_example.proofs.laws.what_is_written_is_read.Goals as goal

pub returns : goal.returns
returns c = λ n m text l w. read_again m text (written_again notice (tt, (tt, (tt, tt))) (notice_fields n) m text l w)
