use Rattle.certs_key.proofs.of_bcder_values.Returning.{read_again}
use Rattle.certs_key.specs.bcder_values.Forms.{written_again}
use Rattle.certs_key.specs.Forms.{key}
use Rattle.certs_key.proofs.laws.what_is_written_is_read.Goals as goal

pub returns : goal.returns
returns c = λ k m text h w. read_again m text (written_again key tt k m text h w)
