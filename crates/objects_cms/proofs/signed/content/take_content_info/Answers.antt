use Rattle.objects_cms.proofs.of_bcder_content.InMode.{inside}
use Rattle.objects_cms.specs.Frame.{AreTyped}
use Rattle.objects_cms.proofs.signed.content.take_content_info.Goals as goal

pub returns-clause-reads : goal.returns-clause-reads
returns-clause-reads g c = inside {P = AreTyped} (record { each = λ p q r h. h }) c.take_sequence.ensures.ran
