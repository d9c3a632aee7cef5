use Rattle.objects_valid.proofs.Texts.{kind_stop, no_content, with_content}
use Rattle.objects_valid.proofs.kinds.signed.Signed.decode.Goals as goal

pub returns-in_err-signed : goal.returns-in_err-signed
returns-in_err-signed g c = kind_stop g.T.SignedContent.kind g.T.SignedContent.says _ _ _ _ c.from_residual.ensures c.in_err-signed.ensures

pub returns-in-Ok : goal.returns-in-Ok
returns-in-Ok g c = with_content c.in_ok-signed.ensures c.in-Ok.ensures

pub returns-in-Err : goal.returns-in-Err
returns-in-Err g c = no_content g.T.SignedContent.says _ c.in_ok-signed.ensures _ _ c.convert.ensures c.in-Err.ensures
