use Rattle.std.proofs.Common.{subst}
use Rattle.resources_ip.specs.bcder_tree.declared.mode.Mode.{Mode}
use Rattle.resources_ip.specs.bcder_content.Exact.{ReadsAllAs}
use Rattle.resources_ip.specs.bcder_content.Here.{here}
use Rattle.resources_ip.proofs.of_bcder_content.Inside.{exact_opt}
use Rattle.resources_ip.specs.Encodings.{AreFamilyFields}
use Rattle.resources_ip.specs.Reading.{family_choice}
use Rattle.resources_ip.proofs.der.take_opt_family.Goals as goal

pub returns : goal.returns
returns g c =
    let rest = g.S.Source.rest in
    exact_opt (record { each = λ p q r m h. subst (λ (z : Mode). ReadsAllAs family_choice (AreFamilyFields z) (here rest p.now) r (here rest q.now)) m h }) c.take_opt_sequence.ensures.ran
