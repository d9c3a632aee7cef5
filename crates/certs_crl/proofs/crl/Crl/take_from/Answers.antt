use Rattle.certs_crl.proofs.of_bcder_content.InMode.{inside}
use Rattle.certs_x509.proofs.Octets.{inside_took}
use Rattle.certs_crl.specs.Whole.{AreCrl, AreCrlOctets}
use Rattle.certs_crl.proofs.Octets.{crl_octets}
use Rattle.certs_crl.proofs.Whole.{crl_reads}
use Rattle.certs_crl.proofs.crl.Crl.take_from.Goals as goal

pub returns-clause-reads : goal.returns-clause-reads
returns-clause-reads g c = crl_reads _ _ _ (inside {P = AreCrl} (record { each = λ p q r h. h.0 }) c.take_sequence.ensures.ran)

pub returns-clause-octets : goal.returns-clause-octets
returns-clause-octets g c = crl_octets _ _ _ (inside_took {P = AreCrlOctets} (record { each = λ p q x h. h.1 }) c.take_sequence.ensures.ran)
