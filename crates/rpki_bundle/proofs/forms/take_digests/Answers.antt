use Rattle.std.proofs.Common.{refl}
use Rattle.rpki_bundle.proofs.of_bcder_content.InMode.{begin, next, stop, done}
use Rattle.rpki_bundle.proofs.forms.take_digests.Goals as goal

pub returns-in_err-key : goal.returns-in_err-key
returns-in_err-key g c = stop _ begin c.from_residual.ensures c.in_err-key.ensures.reads

pub returns-in_err-message : goal.returns-in_err-message
returns-in_err-message g c = stop _ (next begin c.in_ok-key.ensures.reads) c.from_residual-in_err-message.ensures c.in_err-message.ensures.reads

pub returns-in_err-signature : goal.returns-in_err-signature
returns-in_err-signature g c = stop _ (next (next begin c.in_ok-key.ensures.reads) c.in_ok-message.ensures.reads) c.from_residual-in_err-signature.ensures c.in_err-signature.ensures.reads

pub returns : goal.returns
returns g c = done (next (next (next begin c.in_ok-key.ensures.reads) c.in_ok-message.ensures.reads) c.in_ok-signature.ensures.reads) refl
