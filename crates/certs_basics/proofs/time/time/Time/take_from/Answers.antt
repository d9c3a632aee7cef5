use Rattle.std.proofs.Common.{ℕ, arith}
use Rattle.certs_basics.proofs.of_bcder_content.Choices.{choice_lacks, stop_value, universal_apart}
use Rattle.certs_basics.proofs.of_bcder_content.Forests.{absent}
use Rattle.certs_basics.proofs.of_bcder_content.Unique.{octets_tagged}
use Rattle.certs_basics.proofs.Meanings.{second_reads}
use Rattle.certs_basics.proofs.time.time.Time.take_from.Goals as goal

pub returns-in_err-short-clause-reads : goal.returns-in_err-short-clause-reads
returns-in_err-short-clause-reads g c =
    stop_value _ _ _ _ c.from_residual.ensures (λ l. choice_lacks (octets_tagged _ _) (universal_apart (λ e. omega arith)) l) c.in_err-short.ensures.reads

pub returns-in-None-clause-reads : goal.returns-in-None-clause-reads
returns-in-None-clause-reads g c =
    second_reads (λ (t : ℕ). t) _ _ _ c.take_generalized_from.result (octets_tagged _ _) (absent _ _ _ c.in-None.is c.in_ok-short.ensures.reads) c.take_generalized_from.ensures.reads
