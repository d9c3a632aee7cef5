use Rattle.certs_cert.proofs.of_certs_x509.Octets.{inside_took}
use Rattle.objects_cms.proofs.of_bcder_content.InMode.{inside}
use Rattle.objects_cms.specs.Frame.{IsOneSigned, SpellsOneSigned}
use Rattle.objects_cms.specs.Begun.{BeginsData}
use Rattle.objects_cms.proofs.Beginning.{opened}
use Rattle.objects_cms.proofs.signed.frame.take_explicit.Goals as goal

pub returns-clause-reads : goal.returns-clause-reads
returns-clause-reads g c = inside {P = IsOneSigned} (record { each = λ p q r h. h.0 }) c.take_constructed_if.ensures.ran

pub returns-clause-octets : goal.returns-clause-octets
returns-clause-octets g c = inside_took {P = SpellsOneSigned} (record { each = λ p q x h. h.1.0 }) c.take_constructed_if.ensures.ran

pub returns-clause-memory : goal.returns-clause-memory
returns-clause-memory g c = opened {P = BeginsData} _ _ c.take_constructed_if.result (record { each = λ p q r h. h.1.1 }) c.take_constructed_if.ensures.memory
