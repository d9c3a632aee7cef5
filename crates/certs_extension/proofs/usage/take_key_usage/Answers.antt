use Rattle.certs_extension.proofs.of_bcder_content.Choices.{stop_value}
use Rattle.certs_extension.proofs.of_bcder_content.Taking.{on_content}
use Rattle.certs_extension.proofs.of_bcder_content.Unique.{octets_one}
use Rattle.certs_extension.proofs.of_bcder_octets.BitReadings.{bit_string_one}
use Rattle.certs_extension.proofs.of_bcder_content.Meaning.{means_lacks, means_refused}
use Rattle.certs_extension.proofs.usage.take_key_usage.Goals as goal

pub returns-in_err-bits-clause-reads : goal.returns-in_err-bits-clause-reads
returns-in_err-bits-clause-reads g c = stop_value _ _ _ _ c.from_residual.ensures (λ l. means_lacks l) c.in_err-bits.ensures.reads

pub returns-in_default-clause-reads : goal.returns-in_default-clause-reads
returns-in_default-clause-reads g c = on_content _ (means_refused (octets_one bit_string_one) c.in_ok-bits.ensures.reads (λ u h. c.in_default.ensures u h))
