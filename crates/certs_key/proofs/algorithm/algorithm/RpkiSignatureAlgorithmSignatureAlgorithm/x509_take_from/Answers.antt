use Rattle.certs_key.proofs.of_bcder_content.InMode.{inside}
use Rattle.certs_key.specs.certs_basics.Identifiers.{sha256_with_rsa}
use Rattle.certs_key.specs.Algorithms.{AreFields}
use Rattle.certs_key.proofs.Meanings.{algorithm_reads}
use Rattle.certs_key.proofs.algorithm.algorithm.RpkiSignatureAlgorithmSignatureAlgorithm.x509_take_from.Goals as goal

pub returns-clause-reads : goal.returns-clause-reads
returns-clause-reads g c = algorithm_reads sha256_with_rsa _ _ _ (inside {P = λ m. AreFields sha256_with_rsa} (record { each = λ p q r h. h.0 }) c.take_sequence.ensures.ran)
