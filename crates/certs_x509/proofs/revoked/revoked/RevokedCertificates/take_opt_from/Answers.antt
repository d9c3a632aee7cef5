use Rattle.certs_x509.proofs.of_bcder_content.InMode.{inside_opt}
use Rattle.certs_x509.specs.Entries.{AreEntries}
use Rattle.certs_x509.proofs.revoked.revoked.RevokedCertificates.take_opt_from.Goals as goal

pub returns-clause-reads : goal.returns-clause-reads
returns-clause-reads g c = inside_opt {P = AreEntries} (record { each = λ p q r h. h }) c.take_opt_sequence.ensures.ran
