use Rattle.objects_cms.proofs.of_bcder_content.InMode.{inside_opt}
use Rattle.objects_cms.specs.Files.{AreEntryFields}
use Rattle.objects_cms.proofs.manifest.file.skip_opt_file.Goals as goal

pub returns-clause-reads : goal.returns-clause-reads
returns-clause-reads g c = inside_opt {P = AreEntryFields} (record { each = λ p q r h. h.0 }) c.take_opt_sequence.ensures.ran
