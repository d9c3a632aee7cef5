use Rattle.std.proofs.Common.{refl}
use Rattle.bcder_example.proofs.of_bcder_content.InMode.{begin, next, stop, done}
use Rattle.bcder_example.proofs.first.fn.version_of.fn.decode.take_sequence.Goals as goal

pub returns-in_err-major : goal.returns-in_err-major
returns-in_err-major c = stop _ begin c.from_residual.ensures c.in_err-major.ensures.reads

pub returns-in_err-minor : goal.returns-in_err-minor
returns-in_err-minor c = stop _ (next begin c.in_ok-major.ensures.reads) c.from_residual-in_err-minor.ensures c.in_err-minor.ensures.reads

pub returns : goal.returns
returns c = done (next (next begin c.in_ok-major.ensures.reads) c.in_ok-minor.ensures.reads) refl
