use Rattle.certs_x509.proofs.Octets.{inside_took}
use Rattle.certs_cert.specs.Whole.{AreCert, AreCertOctets}
use Rattle.certs_cert.proofs.of_bcder_content.InMode.{inside}
use Rattle.certs_cert.proofs.Sequence.{cert_octets, cert_reads}
use Rattle.certs_cert.proofs.cert.Cert.take_from.Goals as goal

pub returns-clause-reads : goal.returns-clause-reads
returns-clause-reads g c = cert_reads _ _ _ (inside {P = AreCert} (record { each = λ p q r h. h.0 }) c.take_sequence.ensures.ran)

pub returns-clause-octets : goal.returns-clause-octets
returns-clause-octets g c = cert_octets _ _ _ (inside_took {P = AreCertOctets} (record { each = λ p q x h. h.1 }) c.take_sequence.ensures.ran)
