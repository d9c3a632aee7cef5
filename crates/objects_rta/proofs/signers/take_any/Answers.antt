use Rattle.std.proofs.Common.{rules, refl}
use Rattle.objects_cms.proofs.of_bcder_content.Forests.{absent, there}
use Rattle.objects_cms.proofs.of_bcder_content.InMode.{items_end, items_stop}
use Rattle.objects_cms.specs.Signer.{signer_fields}
use Rattle.objects_rta.proofs.Repeated.{repeated_start_as, repeated_end, repeated_next_as, signer_tagged, took_there}
use Rattle.objects_rta.proofs.signers.take_any.Goals as goal

pub loop-signers-init : goal.loop-signers-init
loop-signers-init g c = repeated_start_as signer_fields _ (search rules)

pub returns-in_err-signer-clause-reads : goal.returns-in_err-signer-clause-reads
returns-in_err-signer-clause-reads g c = items_stop _ _ c.loop-signers.invariant.items c.from_residual.ensures c.in_err-signer.ensures.reads

pub loop-signers-preserved : goal.loop-signers-preserved
loop-signers-preserved g c =
    repeated_next_as signer_fields _ c.loop-signers.invariant (there _ _ _ c.in-Some.is c.in_ok-signer.ensures.reads) (took_there _ c.in-Some.is c.in_ok-signer.ensures.octets) c.in_ok-push.ensures.items

pub returns-clause-reads : goal.returns-clause-reads
returns-clause-reads g c = items_end c.loop-signers.invariant.items signer_tagged (absent _ _ _ c.in_default.is c.in_ok-signer.ensures.reads) refl

pub returns-clause-octets : goal.returns-clause-octets
returns-clause-octets g c = repeated_end c.loop-signers.invariant (absent _ _ _ c.in_default.is c.in_ok-signer.ensures.reads) refl
