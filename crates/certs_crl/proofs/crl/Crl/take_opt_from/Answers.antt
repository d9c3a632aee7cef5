use Rattle.certs_crl.proofs.of_bcder_content.InMode.{inside_opt}
use Rattle.certs_crl.specs.Whole.{AreCrl}
use Rattle.certs_crl.proofs.Octets.{crl_octets_opt}
use Rattle.certs_crl.proofs.Whole.{crl_reads_opt}
use Rattle.certs_crl.proofs.crl.Crl.take_opt_from.Goals as goal

pub returns-clause-reads : goal.returns-clause-reads
returns-clause-reads g c = crl_reads_opt _ _ _ (inside_opt {P = AreCrl} (record { each = λ p q r h. h.0 }) c.take_opt_sequence.ensures.ran)

pub returns-clause-octets : goal.returns-clause-octets
returns-clause-octets g c = crl_octets_opt (record { each = λ p q x h. h.1 }) c.take_opt_sequence.ensures.ran
