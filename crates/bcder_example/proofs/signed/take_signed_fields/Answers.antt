use Rattle.std.proofs.Common.{refl}
use Rattle.bcder_example.proofs.of_bcder_content.InMode.{begin, next, stop, done}
use Rattle.bcder_example.proofs.signed.take_signed_fields.Goals as goal

pub returns-in_err-kept : goal.returns-in_err-kept
returns-in_err-kept g c = stop _ begin c.from_residual.ensures c.in_err-kept.ensures

pub returns-in_err-algorithm : goal.returns-in_err-algorithm
returns-in_err-algorithm g c = stop _ (next begin c.in_ok-kept.ensures) c.from_residual-in_err-algorithm.ensures c.in_err-algorithm.ensures

pub returns-in_err-signature : goal.returns-in_err-signature
returns-in_err-signature g c = stop _ (next (next begin c.in_ok-kept.ensures) c.in_ok-algorithm.ensures) c.from_residual-in_err-signature.ensures c.in_err-signature.ensures.reads

pub returns : goal.returns
returns g c = done (next (next (next begin c.in_ok-kept.ensures) c.in_ok-algorithm.ensures) c.in_ok-signature.ensures.reads) refl
