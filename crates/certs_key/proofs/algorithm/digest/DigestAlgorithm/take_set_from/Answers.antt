use Rattle.certs_key.specs.bcder_content.Grammar.{End, Then}
use Rattle.certs_key.proofs.of_bcder_content.InMode.{inside}
use Rattle.certs_key.specs.Algorithms.{IsDigestAlgorithm}
use Rattle.certs_key.proofs.algorithm.digest.DigestAlgorithm.take_set_from.Goals as goal

pub returns-clause-reads : goal.returns-clause-reads
returns-clause-reads g c = inside {P = λ m. Then IsDigestAlgorithm End} (record { each = λ p q r h. h.0 }) c.take_set.ensures.ran
