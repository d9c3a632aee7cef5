use Rattle.certs_x509.proofs.of_bcder_content.Within.{all_stop}
use Rattle.certs_x509.specs.Signed.{signed_content}
use Rattle.certs_crl.proofs.of_bcder_content.Keeping.{same_refusal}
use Rattle.certs_crl.proofs.of_bcder_content.Taking.{on_content, weaker}
use Rattle.certs_crl.specs.Whole.{AreCrl}
use Rattle.certs_crl.proofs.Whole.{crl_disagrees, crl_gives, crl_refused, crl_within, was_read}
use Rattle.certs_crl.proofs.Octets.{crl_took}
use Rattle.certs_crl.proofs.crl.Crl.from_constructed.Goals as goal

pub returns-in_err-signed-clause-reads : goal.returns-in_err-signed-clause-reads
returns-in_err-signed-clause-reads g c = record { reads = all_stop _ (AreCrl _) (signed_content.reads _) _ _ _ _ c.from_residual.ensures crl_within c.in_err-signed.ensures.reads.reads }

pub returns-in-Err-clause-reads : goal.returns-in-Err-clause-reads
returns-in-Err-clause-reads g c = record {
  reads = same_refusal _ _ _ c.convert.ensures
      (weaker _ (λ none. crl_refused c.mode-mode.ensures c.in_ok-signed.ensures.reads.reads none) c.in-Err.ensures.reads);
}

pub returns-then-not-agree-clause-reads : goal.returns-then-not-agree-clause-reads
returns-then-not-agree-clause-reads g c =
    let read = was_read c.mode-mode.ensures c.in-Ok.ensures.reads in
    record { reads = on_content _ (crl_disagrees read c.in_ok-signed.ensures.reads.reads (λ p. let yes = c.agree.ensures.1 p in let no = c.if-not-agree.true in absurd cc)) }

pub returns-clause-reads : goal.returns-clause-reads
returns-clause-reads g c =
    let read = was_read c.mode-mode.ensures c.in-Ok.ensures.reads in
    record { reads = crl_gives read c.from_parts.ensures (c.agree.ensures.0 c.if-not-agree.false) c.in_ok-signed.ensures.reads.reads }

pub returns-clause-octets : goal.returns-clause-octets
returns-clause-octets g c =
    crl_took c.mode-mode.ensures c.from_parts.ensures (c.agree.ensures.0 c.if-not-agree.false) c.in_ok-signed.ensures.reads.reads c.in_ok-signed.ensures.octets c.in-Ok.ensures.octets
