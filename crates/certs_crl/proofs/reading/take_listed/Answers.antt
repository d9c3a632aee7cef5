use Rattle.certs_crl.proofs.of_bcder_content.InMode.{inside}
use Rattle.certs_x509.proofs.Octets.{inside_took}
use Rattle.certs_crl.specs.Reading.{IsReadBody, SpellsReadBody}
use Rattle.certs_crl.proofs.reading.take_listed.Goals as goal

pub returns-clause-reads : goal.returns-clause-reads
returns-clause-reads g c = inside {P = IsReadBody} (record { each = λ p q r h. h.0 }) c.take_sequence.ensures.ran

pub returns-clause-octets : goal.returns-clause-octets
returns-clause-octets g c = inside_took {P = SpellsReadBody} (record { each = λ p q x h. h.1 }) c.take_sequence.ensures.ran
