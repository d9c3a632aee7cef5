use Rattle.bcder.proofs.of_bcder_content.Taking.{on_content}
use Rattle.objects_valid.proofs.IfType.{if_type_stop, of_type, other_type, said_no}
use Rattle.objects_valid.proofs.if_type.SignedObjectDecodeIfType.decode_if_type.Goals as goal

pub returns-in_err-signed : goal.returns-in_err-signed
returns-in_err-signed g c = if_type_stop _ _ _ _ _ c.from_residual.ensures c.in_err-signed.ensures.decodes

pub returns-then-not-is_of_type : goal.returns-then-not-is_of_type
returns-then-not-is_of_type g c = on_content _ (other_type _ c.in_ok-signed.ensures.decodes (said_no c.is_of_type.ensures c.if-not-is_of_type.true))

pub returns : goal.returns
returns g c = of_type c.in_ok-signed.ensures.decodes c.is_of_type.ensures c.if-not-is_of_type.false
