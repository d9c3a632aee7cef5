use Rattle.certs_cert.proofs.of_certs_x509.Octets.{inside_took}
use Rattle.objects_cms.proofs.of_bcder_content.InMode.{inside}
use Rattle.objects_cms.specs.Frame.{AreSigned, AreSignedOctets}
use Rattle.objects_cms.specs.Begun.{BeginsSigned}
use Rattle.objects_cms.proofs.Beginning.{opened}
use Rattle.objects_cms.proofs.signed.frame.take_signed_data.Goals as goal

pub returns-clause-reads : goal.returns-clause-reads
returns-clause-reads g c = inside {P = AreSigned} (record { each = λ p q r h. h.0 }) c.take_sequence.ensures.ran

pub returns-clause-octets : goal.returns-clause-octets
returns-clause-octets g c = inside_took {P = AreSignedOctets} (record { each = λ p q x h. h.1.0 }) c.take_sequence.ensures.ran

pub returns-clause-memory : goal.returns-clause-memory
returns-clause-memory g c = opened {P = BeginsSigned} _ _ c.take_sequence.result (record { each = λ p q r h. h.1.1 }) c.take_sequence.ensures.memory
