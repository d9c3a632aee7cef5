use Rattle.objects_cms.proofs.of_bcder_content.InMode.{inside}
use Rattle.objects_valid.specs.Stated.{AreStated}
use Rattle.objects_valid.proofs.stated.StatedResources.take_from.Goals as goal

pub returns-clause-reads : goal.returns-clause-reads
returns-clause-reads g c = inside {P = AreStated c.args.form} (record { each = λ p q r h. h }) c.take_sequence.ensures.ran
