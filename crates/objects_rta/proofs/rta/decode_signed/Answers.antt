use Rattle.std.proofs.Common.{◌∙◌}
use Rattle.objects_cms.proofs.Whole.{said_no}
use Rattle.objects_cms.proofs.of_bcder_content.Taking.{on_content}
use Rattle.objects_rta.proofs.Checking.{other_type, typed_stop}
use Rattle.objects_rta.proofs.rta.decode_signed.Goals as goal

pub returns-in_err-signed : goal.returns-in_err-signed
returns-in_err-signed g c = typed_stop _ _ _ _ c.from_residual.ensures c.in_err-signed.ensures

pub returns-then-not-is_attestation : goal.returns-then-not-is_attestation
returns-then-not-is_attestation g c =
    on_content _ (other_type _ c.in_ok-signed.ensures (said_no c.is_attestation.ensures c.if-not-is_attestation.true))

pub returns-in-Ok : goal.returns-in-Ok
returns-in-Ok g c = record {
  object = c.in_ok-signed.ensures;
  type_is = c.is_attestation.ensures.0 c.if-not-is_attestation.false;
  content_is = c.in-Ok.ensures ∙ c.content-2.ensures;
}
