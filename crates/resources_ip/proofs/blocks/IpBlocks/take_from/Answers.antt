use Rattle.std.proofs.Common.{subst}
use Rattle.resources_ip.specs.bcder_tree.declared.mode.Mode.{Mode}
use Rattle.resources_ip.specs.bcder_content.Exact.{ReadsAllAs}
use Rattle.resources_ip.specs.bcder_content.Here.{here}
use Rattle.resources_ip.proofs.of_bcder_content.Inside.{exact_each}
use Rattle.resources_ip.specs.Encodings.{AreBlocks}
use Rattle.resources_ip.proofs.Fitting.{given_list}
use Rattle.resources_ip.proofs.blocks.IpBlocks.take_from.Goals as goal

pub returns-clause-reads : goal.returns-clause-reads
returns-clause-reads g c =
    let rest = g.S.Source.rest in
    exact_each (record { each = λ p q r m h. subst (λ (z : Mode). ReadsAllAs (λ b. b) (AreBlocks z c.args.family) (here rest p.now) r (here rest q.now)) m h }) c.take_sequence.ensures.ran

pub returns-clause-fits : goal.returns-clause-fits
returns-clause-fits g c = given_list (here g.S.Source.rest c.args.cons.now).mode c.args.family _ _ c.take_sequence.result (returns-clause-reads g c)
