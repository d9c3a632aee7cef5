use Rattle.certs_cert.proofs.of_certs_x509.Octets.{inside_took}
use Rattle.objects_cms.proofs.of_bcder_content.InMode.{inside}
use Rattle.objects_rta.specs.MultiFrame.{AreMulti, AreMultiOctets}
use Rattle.objects_rta.proofs.frame.take_signed_data.Goals as goal

pub returns-clause-reads : goal.returns-clause-reads
returns-clause-reads g c = inside {P = AreMulti} (record { each = λ p q r h. h.0 }) c.take_sequence.ensures.ran

pub returns-clause-octets : goal.returns-clause-octets
returns-clause-octets g c = inside_took {P = AreMultiOctets} (record { each = λ p q x h. h.1 }) c.take_sequence.ensures.ran
