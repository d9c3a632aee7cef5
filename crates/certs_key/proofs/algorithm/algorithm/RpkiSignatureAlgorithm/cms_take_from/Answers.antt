use Rattle.certs_key.proofs.of_bcder_content.InMode.{inside}
use Rattle.certs_key.specs.Algorithms.{AreCmsFields}
use Rattle.certs_key.proofs.Meanings.{cms_reads}
use Rattle.certs_key.proofs.algorithm.algorithm.RpkiSignatureAlgorithm.cms_take_from.Goals as goal

pub returns-clause-reads : goal.returns-clause-reads
returns-clause-reads g c = cms_reads _ _ _ (inside {P = λ m. AreCmsFields} (record { each = λ p q r h. h.0 }) c.take_sequence.ensures.ran)
