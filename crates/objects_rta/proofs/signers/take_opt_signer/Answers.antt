use Rattle.objects_cms.proofs.of_bcder_content.InMode.{inside_opt}
use Rattle.objects_cms.specs.Signer.{AreSigner, AreSignerOctets}
use Rattle.objects_rta.proofs.Repeated.{opt_took}
use Rattle.objects_rta.proofs.signers.take_opt_signer.Goals as goal

pub returns-clause-reads : goal.returns-clause-reads
returns-clause-reads g c = inside_opt {P = AreSigner} (record { each = λ p q r h. h.0 }) c.take_opt_sequence.ensures.ran

pub returns-clause-octets : goal.returns-clause-octets
returns-clause-octets g c = opt_took {P = AreSignerOctets} (record { each = λ p q x h. h.1 }) c.take_opt_sequence.ensures.ran
