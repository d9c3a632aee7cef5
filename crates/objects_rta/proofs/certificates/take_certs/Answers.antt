use Rattle.std.proofs.Common.{rules, refl}
use Rattle.objects_cms.proofs.of_bcder_content.Forests.{absent, there}
use Rattle.objects_cms.proofs.of_bcder_content.InMode.{items_end, items_stop}
use Rattle.objects_rta.proofs.Repeated.{cert_tagged, repeated_start, repeated_end, repeated_next, took_there}
use Rattle.objects_rta.proofs.certificates.take_certs.Goals as goal

pub loop-certs-init : goal.loop-certs-init
loop-certs-init g c = repeated_start (search rules)

pub returns-in_err-cert-clause-reads : goal.returns-in_err-cert-clause-reads
returns-in_err-cert-clause-reads g c = items_stop _ _ c.loop-certs.invariant.items c.from_residual.ensures c.in_err-cert.ensures.reads

pub loop-certs-preserved : goal.loop-certs-preserved
loop-certs-preserved g c =
    repeated_next c.loop-certs.invariant (there _ _ _ c.in-Some.is c.in_ok-cert.ensures.reads) (took_there _ c.in-Some.is c.in_ok-cert.ensures.octets) c.in_ok-push.ensures.items

pub returns-clause-reads : goal.returns-clause-reads
returns-clause-reads g c = items_end c.loop-certs.invariant.items cert_tagged (absent _ _ _ c.in_default.is c.in_ok-cert.ensures.reads) refl

pub returns-clause-octets : goal.returns-clause-octets
returns-clause-octets g c = repeated_end c.loop-certs.invariant (absent _ _ _ c.in_default.is c.in_ok-cert.ensures.reads) refl
