use Rattle.std.proofs.Common.{refl}
use Rattle.certs_name.proofs.of_bcder_content.Forests.{there, absent}
use Rattle.certs_name.proofs.of_bcder_content.Gathering.{gather_next, gather_stop, gather_end}
use Rattle.certs_name.proofs.Ones.{attribute_one, attribute_tagged}
use Rattle.certs_name.proofs.skim.skip_attributes.Goals as goal

pub returns-in_err-skip_opt_attribute : goal.returns-in_err-skip_opt_attribute
returns-in_err-skip_opt_attribute g c = gather_stop _ _ c.attributes.invariant c.from_residual.ensures c.in_err-skip_opt_attribute.ensures

pub attributes-preserved : goal.attributes-preserved
attributes-preserved g c = gather_next (λ m. attribute_one) c.attributes.invariant (there _ _ _ c.in-Some.is c.in_ok-skip_opt_attribute.ensures) tt

pub returns : goal.returns
returns g c = gather_end c.attributes.invariant (λ m. attribute_tagged) (absent _ _ _ c.in_default.is c.in_ok-skip_opt_attribute.ensures) refl
