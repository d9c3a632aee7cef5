use Rattle.certs_cert.specs.Whole.{AreCert}
use Rattle.certs_cert.proofs.of_bcder_content.InMode.{inside_opt}
use Rattle.certs_cert.proofs.Sequence.{cert_octets_opt, cert_reads_opt}
use Rattle.certs_cert.proofs.cert.Cert.take_opt_from.Goals as goal

pub returns-clause-reads : goal.returns-clause-reads
returns-clause-reads g c = cert_reads_opt _ _ _ (inside_opt {P = AreCert} (record { each = λ p q r h. h.0 }) c.take_opt_sequence.ensures.ran)

pub returns-clause-octets : goal.returns-clause-octets
returns-clause-octets g c = cert_octets_opt (record { each = λ p q x h. h.1 }) c.take_opt_sequence.ensures.ran
