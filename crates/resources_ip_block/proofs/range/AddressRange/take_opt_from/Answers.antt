use Rattle.std.proofs.Common.{subst}
use Rattle.resources_ip_block.specs.bcder_tree.declared.mode.Mode.{Mode}
use Rattle.resources_ip_block.specs.bcder_content.Exact.{ReadsAllAs}
use Rattle.resources_ip_block.specs.bcder_content.Here.{here}
use Rattle.resources_ip_block.proofs.of_bcder_content.Inside.{exact_opt}
use Rattle.resources_ip_block.specs.BlockEncodings.{AreOrdered}
use Rattle.resources_ip_block.specs.Range.{run_of_range}
use Rattle.resources_ip_block.proofs.range.AddressRange.take_opt_from.Goals as goal

pub returns-clause-reads : goal.returns-clause-reads
returns-clause-reads g c =
    let rest = g.S.Source.rest in
    exact_opt (record { each = λ p q r m h. subst (λ (z : Mode). ReadsAllAs run_of_range (AreOrdered z c.args.family) (here rest p.now) r (here rest q.now)) m h.0 }) c.take_opt_sequence.ensures.ran
