use Rattle.std.proofs.Common.{refl}
use Rattle.certs_extension.proofs.of_bcder_content.InMode.{begin, next, stop, stop_all, finish}
use Rattle.certs_extension.proofs.access.authority.take_issuer.Goals as goal

pub returns-in_err-skip_if : goal.returns-in_err-skip_if
returns-in_err-skip_if g c = stop _ begin c.from_residual.ensures c.in_err-skip_if.ensures.reads

pub returns-in_err-uri : goal.returns-in_err-uri
returns-in_err-uri g c = stop_all _ (next begin c.in_ok-skip_if.ensures.reads) c.from_residual-in_err-uri.ensures c.in_err-uri.ensures.reads

pub returns : goal.returns
returns g c = finish (next begin c.in_ok-skip_if.ensures.reads) c.in_ok-uri.ensures.reads refl
