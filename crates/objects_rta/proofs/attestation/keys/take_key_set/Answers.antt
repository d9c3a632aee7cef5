use Rattle.objects_cms.proofs.of_bcder_content.InMode.{inside}
use Rattle.objects_rta.specs.Attestations.{AreSubjectKeys}
use Rattle.objects_rta.proofs.attestation.keys.take_key_set.Goals as goal

pub returns : goal.returns
returns g c = inside {P = AreSubjectKeys} (record { each = λ p q r h. h }) c.take_set.ensures.ran
