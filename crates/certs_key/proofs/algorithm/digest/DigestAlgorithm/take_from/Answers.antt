use Rattle.certs_key.proofs.of_bcder_content.Choices.{as_gives, as_lacks, stop_value}
use Rattle.certs_key.proofs.of_bcder_content.InMode.{inside}
use Rattle.certs_key.specs.certs_basics.Basics.{has_null}
use Rattle.certs_key.specs.Algorithms.{AreFields, sha256, whatever}
use Rattle.certs_key.proofs.algorithm.digest.DigestAlgorithm.take_from.Goals as goal

pub returns-in_err-_has_null-clause-reads : goal.returns-in_err-_has_null-clause-reads
returns-in_err-_has_null-clause-reads g c =
    stop_value _ _ _ _ c.from_residual.ensures (λ l. as_lacks whatever (as_lacks has_null l))
    (inside {P = λ m. AreFields sha256} (record { each = λ p q r h. h.0 }) c.in_err-_has_null.ensures.ran)

pub returns-clause-reads : goal.returns-clause-reads
returns-clause-reads g c =
    as_gives whatever (as_gives has_null (inside {P = λ m. AreFields sha256} (record { each = λ p q r h. h.0 }) c.in_ok-_has_null.ensures.ran))
