use Rattle.std.proofs.Common.{subst}
use Rattle.resources_ip.specs.bcder_tree.declared.mode.Mode.{Mode}
use Rattle.resources_ip.specs.bcder_content.Exact.{ReadsAllAs}
use Rattle.resources_ip.specs.bcder_content.Here.{here}
use Rattle.resources_ip.proofs.of_bcder_content.Inside.{exact_each}
use Rattle.resources_ip.specs.Encodings.{AreIpFamilies}
use Rattle.resources_ip.specs.Reading.{family_choices}
use Rattle.resources_ip.proofs.Fitting.{given_v4, given_v6, given_whole_v4}
use Rattle.resources_ip.proofs.resources.IpResources.take_families_from.Goals as goal

pub returns-clause-reads : goal.returns-clause-reads
returns-clause-reads g c =
    let rest = g.S.Source.rest in
    exact_each (record { each = λ p q r m h. subst (λ (z : Mode). ReadsAllAs family_choices (AreIpFamilies z) (here rest p.now) r (here rest q.now)) m h }) c.take_sequence.ensures.ran

pub returns-clause-fits_v4 : goal.returns-clause-fits_v4
returns-clause-fits_v4 g c = given_v4 (here g.S.Source.rest c.args.cons.now).mode _ _ c.take_sequence.result (returns-clause-reads g c)

pub returns-clause-fits_v6 : goal.returns-clause-fits_v6
returns-clause-fits_v6 g c = given_v6 (here g.S.Source.rest c.args.cons.now).mode _ _ c.take_sequence.result (returns-clause-reads g c)

pub returns-clause-whole : goal.returns-clause-whole
returns-clause-whole g c = given_whole_v4 c.take_sequence.result (returns-clause-fits_v4 g c)
