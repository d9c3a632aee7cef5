use Rattle.std.proofs.Common.{refl}
use Rattle.rpki_bundle.proofs.of_bcder_content.InMode.{begin, next, stop, done}
use Rattle.rpki_bundle.proofs.forms.take_object.Goals as goal

pub returns-in_err-uri : goal.returns-in_err-uri
returns-in_err-uri g c = stop _ begin c.from_residual.ensures c.in_err-uri.ensures.reads

pub returns-in_err-octets : goal.returns-in_err-octets
returns-in_err-octets g c = stop _ (next begin c.in_ok-uri.ensures.reads) c.from_residual-in_err-octets.ensures c.in_err-octets.ensures.reads

pub returns : goal.returns
returns g c = done (next (next begin c.in_ok-uri.ensures.reads) c.in_ok-octets.ensures.reads) refl
