use Rattle.std.proofs.Common.{◌∙◌}
use Rattle.bcder.proofs.of_bcder_content.Taking.{on_content}
use Rattle.objects_valid.proofs.Texts.{other_type, said_no, typed_stop}
use Rattle.objects_valid.proofs.kinds.typed.decode_typed.Goals as goal

pub returns-in_err-signed : goal.returns-in_err-signed
returns-in_err-signed g c = typed_stop _ _ _ _ _ c.from_residual.ensures c.in_err-signed.ensures.decodes

pub returns-then-not-has_type : goal.returns-then-not-has_type
returns-then-not-has_type g c = on_content _ (other_type _ c.in_ok-signed.ensures.decodes (said_no c.has_type.ensures c.if-not-has_type.true))

pub returns-in-Ok : goal.returns-in-Ok
returns-in-Ok g c = record { object = c.in_ok-signed.ensures.decodes; type_is = c.has_type.ensures.0 c.if-not-has_type.false; content_is = c.in-Ok.ensures ∙ c.content-2.ensures }
