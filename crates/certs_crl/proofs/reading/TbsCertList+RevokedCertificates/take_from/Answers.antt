use Rattle.certs_crl.proofs.of_bcder_content.Choices.{stop_value}
use Rattle.certs_crl.proofs.of_bcder_content.Keeping.{same_refusal}
use Rattle.certs_crl.proofs.of_bcder_content.Taking.{weaker}
use Rattle.certs_crl.proofs.Listed.{tbs_gives, tbs_lacks, tbs_refused}
use Rattle.certs_crl.proofs.Octets.{tbs_took}
use Rattle.certs_crl.proofs.reading.TbsCertList+RevokedCertificates.take_from.Goals as goal

pub returns-in_err-listed-clause-reads : goal.returns-in_err-listed-clause-reads
returns-in_err-listed-clause-reads g c = stop_value _ _ _ _ c.from_residual.ensures (λ l. tbs_lacks l) c.in_err-listed.ensures.reads

pub returns-in-Ok-clause-reads : goal.returns-in-Ok-clause-reads
returns-in-Ok-clause-reads g c = tbs_gives c.in_ok-listed.ensures.reads c.in-Ok.ensures

pub returns-in-Err-clause-reads : goal.returns-in-Err-clause-reads
returns-in-Err-clause-reads g c = same_refusal _ _ _ c.convert.ensures (weaker _ (λ none. tbs_refused c.in_ok-listed.ensures.reads none) c.in-Err.ensures)

pub returns-in-Ok-clause-octets : goal.returns-in-Ok-clause-octets
returns-in-Ok-clause-octets g c = tbs_took c.in_ok-listed.ensures.octets c.in-Ok.ensures
