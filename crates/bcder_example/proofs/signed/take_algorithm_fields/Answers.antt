use Rattle.std.proofs.Common.{refl}
use Rattle.bcder_example.proofs.of_bcder_content.InMode.{begin, next, stop, done}
use Rattle.bcder_example.proofs.signed.take_algorithm_fields.Goals as goal

pub returns-in_err-id : goal.returns-in_err-id
returns-in_err-id g c = stop _ begin c.from_residual.ensures c.in_err-id.ensures.reads

pub returns : goal.returns
returns g c = done (next begin c.in_ok-id.ensures.reads) refl
