use Rattle.certs_x509.proofs.of_bcder_values.Returning.{read_again}
use Rattle.certs_x509.proofs.Entries.{entry_spelled}
use Rattle.certs_x509.proofs.revoked.laws.entries_are_read_again.Goals as goal

pub returns : goal.returns
returns c = λ e tag content m text small w h. read_again m text (entry_spelled e tag content m text small w h)
