use Rattle.std.proofs.Common.{arith}
use Rattle.certs_name.proofs.of_bcder_content.Choices.{choice_lacks, stop_value, universal_apart}
use Rattle.certs_name.proofs.of_bcder_content.Forests.{absent}
use Rattle.certs_name.proofs.of_bcder_content.Unique.{octets_tagged}
use Rattle.certs_name.specs.Inspected.{IsPrintableValue, IsUnicodeValue}
use Rattle.certs_name.proofs.Readings.{second_reads}
use Rattle.certs_name.proofs.attributes.skip_either.Goals as goal

pub returns-in_err-unicode-clause-reads : goal.returns-in_err-unicode-clause-reads
returns-in_err-unicode-clause-reads g c =
    stop_value _ _ _ _ c.from_residual.ensures (λ l. choice_lacks (octets_tagged _ _) (universal_apart (λ e. omega arith)) l) c.in_err-unicode.ensures.reads

pub returns-in-None-clause-reads : goal.returns-in-None-clause-reads
returns-in-None-clause-reads g c =
    second_reads (λ (t : Unit {0}). t) IsUnicodeValue IsPrintableValue _ _ _ c.skip_printable.result (octets_tagged _ _) (absent _ _ _ c.in-None.is c.in_ok-unicode.ensures.reads) c.skip_printable.ensures.reads
