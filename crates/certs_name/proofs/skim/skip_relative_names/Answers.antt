use Rattle.std.proofs.Common.{refl}
use Rattle.certs_name.proofs.of_bcder_content.Forests.{there, absent}
use Rattle.certs_name.proofs.of_bcder_content.Gathering.{gather_next, gather_stop, gather_end}
use Rattle.certs_name.proofs.Ones.{relative_name_one, relative_name_tagged}
use Rattle.certs_name.proofs.skim.skip_relative_names.Goals as goal

pub returns-in_err-skip_opt_relative_name : goal.returns-in_err-skip_opt_relative_name
returns-in_err-skip_opt_relative_name g c = gather_stop _ _ c.names.invariant c.from_residual.ensures c.in_err-skip_opt_relative_name.ensures

pub names-preserved : goal.names-preserved
names-preserved g c = gather_next (λ m. relative_name_one) c.names.invariant (there _ _ _ c.in-Some.is c.in_ok-skip_opt_relative_name.ensures) tt

pub returns : goal.returns
returns g c = gather_end c.names.invariant (λ m. relative_name_tagged) (absent _ _ _ c.in_default.is c.in_ok-skip_opt_relative_name.ensures) refl
