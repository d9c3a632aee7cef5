use Rattle.std.proofs.Common.{Err}
use Rattle.certs_x509.specs.bcder_tree.Tree.{none, more}
use Rattle.certs_x509.proofs.of_bcder_content.Took.{took_one}
use Rattle.certs_x509.proofs.Messages.{message_goes, message_reads}
use Rattle.certs_x509.proofs.signed.signed.take_message.Goals as goal

pub capture-captured-requires-clause-reads : goal.capture-captured-requires-clause-reads
capture-captured-requires-clause-reads g c = record { each = λ p q x m. (more m.tree none, took_one m.took) }

pub returns-in-Ok-clause-reads : goal.returns-in-Ok-clause-reads
returns-in-Ok-clause-reads g c = message_reads (record { each = λ p q r m. m }) c.in-Ok.ensures.captures

pub returns-in-Ok-clause-octets : goal.returns-in-Ok-clause-octets
returns-in-Ok-clause-octets g c = message_goes c.in-Ok.ensures.captures

pub returns-in-Err-clause-reads : goal.returns-in-Err-clause-reads
returns-in-Err-clause-reads g c = message_reads {r = Err c.in-Err.error} (record { each = λ p q r m. m }) c.in-Err.ensures.captures
