use Rattle.std.proofs.Common.{refl}
use Rattle.certs_extension.proofs.of_bcder_content.InMode.{begin, next, stop, done}
use Rattle.certs_extension.proofs.policies.take_only.Goals as goal

pub returns-in_err-policy : goal.returns-in_err-policy
returns-in_err-policy g c = stop _ begin c.from_residual.ensures c.in_err-policy.ensures

pub returns : goal.returns
returns g c = done (next begin c.in_ok-policy.ensures) refl
