use Rattle.certs_x509.specs.Signed.{signed_content}
use Rattle.certs_cert.specs.Whole.{AreCert}
use Rattle.certs_cert.proofs.of_bcder_content.Keeping.{same_refusal}
use Rattle.certs_cert.proofs.of_bcder_content.Taking.{weaker}
use Rattle.certs_cert.proofs.of_bcder_content.Within.{all_stop}
use Rattle.certs_cert.proofs.Octets.{cert_took}
use Rattle.certs_cert.proofs.Whole.{cert_gives, cert_refused, cert_within}
use Rattle.certs_cert.proofs.cert.Cert.from_constructed.Goals as goal

pub returns-in_err-signed-clause-reads : goal.returns-in_err-signed-clause-reads
returns-in_err-signed-clause-reads g c = record { reads = all_stop _ (AreCert _) (signed_content.reads _) _ _ _ _ c.from_residual.ensures cert_within c.in_err-signed.ensures.reads.reads }

pub returns-in-Err-clause-reads : goal.returns-in-Err-clause-reads
returns-in-Err-clause-reads g c = record {
  reads = same_refusal _ _ _ c.convert.ensures
      (weaker _ (λ none. cert_refused c.mode-mode.ensures c.in_ok-signed.ensures.reads.reads none) c.in-Err.ensures.reads);
}

pub returns-clause-reads : goal.returns-clause-reads
returns-clause-reads g c = record {
  reads = cert_gives c.mode-mode.ensures c.from_parts.ensures c.in_ok-signed.ensures.reads.reads c.in-Ok.ensures.reads;
}

pub returns-clause-octets : goal.returns-clause-octets
returns-clause-octets g c = cert_took c.mode-mode.ensures c.from_parts.ensures c.in_ok-signed.ensures.reads.reads c.in_ok-signed.ensures.octets c.in-Ok.ensures.octets
