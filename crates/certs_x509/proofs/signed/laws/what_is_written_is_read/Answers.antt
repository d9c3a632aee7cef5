use Rattle.certs_x509.proofs.of_bcder_values.Returning.{read_again}
use Rattle.certs_x509.specs.bcder_values.Forms.{written_again}
use Rattle.certs_x509.specs.Signed.{signed, signed_fields}
use Rattle.certs_x509.proofs.Again.{signed_lawful, signed_sound}
use Rattle.certs_x509.proofs.signed.laws.what_is_written_is_read.Goals as goal

pub returns : goal.returns
returns c = λ s m text l w. read_again m text (written_again signed signed_sound (signed_fields s) m text (signed_lawful s l) w)
