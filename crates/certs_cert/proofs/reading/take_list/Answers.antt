use Rattle.std.proofs.Common.{refl}
use Rattle.certs_cert.proofs.of_bcder_content.InMode.{begin, next, stop, done}
use Rattle.certs_cert.proofs.reading.take_list.Goals as goal

pub returns-in_err-slots : goal.returns-in_err-slots
returns-in_err-slots g c = stop _ begin c.from_residual.ensures c.in_err-slots.ensures.reads

pub returns : goal.returns
returns g c = done (next begin c.in_ok-slots.ensures.reads) refl
