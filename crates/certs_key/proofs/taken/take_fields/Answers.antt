use Rattle.std.proofs.Common.{refl}
use Rattle.certs_key.proofs.of_bcder_content.InMode.{begin, next, stop, done}
use Rattle.certs_key.proofs.taken.take_fields.Goals as goal

pub returns-in_err-format : goal.returns-in_err-format
returns-in_err-format g c = stop _ begin c.from_residual.ensures c.in_err-format.ensures.reads

pub returns-in_err-bits : goal.returns-in_err-bits
returns-in_err-bits g c = stop _ (next begin c.in_ok-format.ensures.reads) c.from_residual-in_err-bits.ensures c.in_err-bits.ensures.reads

pub returns : goal.returns
returns g c = done (next (next begin c.in_ok-format.ensures.reads) c.in_ok-bits.ensures.reads) refl
