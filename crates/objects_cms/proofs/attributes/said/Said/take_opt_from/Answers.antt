use Rattle.objects_cms.specs.Said.{AreSaid, said_fields, said_of}
use Rattle.objects_cms.proofs.of_bcder_content.InMode.{inside_opt}
use Rattle.objects_cms.proofs.of_bcder_content.Meaning.{opt_meaning}
use Rattle.objects_cms.proofs.attributes.said.Said.take_opt_from.Goals as goal

pub returns-clause-reads : goal.returns-clause-reads
returns-clause-reads g c = opt_meaning said_fields said_of _ _ _ _ _ (inside_opt {P = AreSaid} (record { each = λ p q r h. h }) c.take_opt_sequence.ensures.ran)
