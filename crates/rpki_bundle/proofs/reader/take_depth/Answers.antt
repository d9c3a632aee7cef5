use Rattle.std.proofs.Common.{refl}
use Rattle.rpki_bundle.proofs.of_bcder_content.Choices.{such_gives, such_lacks, such_refused, stop_value}
use Rattle.rpki_bundle.proofs.of_bcder_content.Taking.{on_content}
use Rattle.rpki_bundle.proofs.of_bcder_content.Unique.{octets_one, unsigned_one}
use Rattle.rpki_bundle.proofs.reader.take_depth.Goals as goal

pub returns-in_err-depth-clause-reads : goal.returns-in_err-depth-clause-reads
returns-in_err-depth-clause-reads g c = stop_value _ _ _ _ c.from_residual.ensures (λ l. such_lacks l) c.in_err-depth.ensures.reads

pub returns-then-not-is_depth-clause-reads : goal.returns-then-not-is_depth-clause-reads
returns-then-not-is_depth-clause-reads g c = on_content _ (such_refused (octets_one unsigned_one) c.in_ok-depth.ensures.reads (λ d. let t = c.if-not-is_depth.ensures.1 d in absurd cc))

pub returns-clause-reads : goal.returns-clause-reads
returns-clause-reads g c = such_gives c.in_ok-depth.ensures.reads (c.if-not-is_depth.ensures.0 refl)
