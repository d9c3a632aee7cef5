use Rattle.std.proofs.Common.{refl}
use Rattle.rpki_bundle.proofs.of_bcder_content.InMode.{begin, next, stop, done}
use Rattle.rpki_bundle.proofs.forms.take_locator.Goals as goal

pub returns-in_err-name : goal.returns-in_err-name
returns-in_err-name g c = stop _ begin c.from_residual.ensures c.in_err-name.ensures.reads

pub returns-in_err-text : goal.returns-in_err-text
returns-in_err-text g c = stop _ (next begin c.in_ok-name.ensures.reads) c.from_residual-in_err-text.ensures c.in_err-text.ensures.reads

pub returns : goal.returns
returns g c = done (next (next begin c.in_ok-name.ensures.reads) c.in_ok-text.ensures.reads) refl
