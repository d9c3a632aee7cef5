use Rattle.objects_cms.proofs.of_bcder_content.InMode.{inside}
use Rattle.objects_cms.specs.Files.{AreFiles}
use Rattle.objects_cms.proofs.manifest.list.FileList.take_from.Goals as goal

pub returns-clause-reads : goal.returns-clause-reads
returns-clause-reads g c = inside {P = AreFiles} (record { each = λ p q r h. h }) c.take_sequence.ensures.ran
