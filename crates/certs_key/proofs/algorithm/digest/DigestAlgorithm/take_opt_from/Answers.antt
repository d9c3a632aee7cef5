use Rattle.certs_key.proofs.of_bcder_content.Choices.{as_gives, as_lacks_tagged}
use Rattle.certs_key.proofs.of_bcder_content.Forests.{there}
use Rattle.certs_key.proofs.of_bcder_content.InMode.{inside_opt}
use Rattle.certs_key.specs.certs_basics.Basics.{has_null}
use Rattle.certs_key.specs.Algorithms.{AreFields, sha256, whatever}
use Rattle.certs_key.proofs.Meanings.{stop_opt_value}
use Rattle.certs_key.proofs.algorithm.digest.DigestAlgorithm.take_opt_from.Goals as goal

pub returns-in_err-has_null-clause-reads : goal.returns-in_err-has_null-clause-reads
returns-in_err-has_null-clause-reads g c =
    stop_opt_value _ _ _ _ c.from_residual.ensures (λ l. as_lacks_tagged whatever (as_lacks_tagged has_null l))
    (inside_opt {P = λ m. AreFields sha256} (record { each = λ p q r h. h.0 }) c.in_err-has_null.ensures.ran)

pub returns-in-Some-clause-reads : goal.returns-in-Some-clause-reads
returns-in-Some-clause-reads g c =
    as_gives whatever (as_gives has_null (there _ _ _ c.in-Some.is (inside_opt {P = λ m. AreFields sha256} (record { each = λ p q r h. h.0 }) c.in_ok-has_null.ensures.ran)))
