use Rattle.objects_cms.proofs.of_bcder_content.InMode.{inside_opt}
use Rattle.objects_cms.specs.Versions.{IsNumber}
use Rattle.objects_cms.proofs.version.take_opt_version.Goals as goal

pub returns-clause-reads : goal.returns-clause-reads
returns-clause-reads g c = inside_opt {P = IsNumber c.args.version} (record { each = λ p q r h. h.0 }) c.take_opt_constructed_if.ensures.ran
