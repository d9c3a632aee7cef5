use Rattle.std.proofs.Common.{refl}
use Rattle.certs_name.proofs.of_bcder_content.InMode.{begin, next, stop, done}
use Rattle.certs_name.proofs.skim.skip_attribute_fields.Goals as goal

pub returns-in_err-skip_in : goal.returns-in_err-skip_in
returns-in_err-skip_in g c = stop _ begin c.from_residual.ensures c.in_err-skip_in.ensures.reads

pub returns-in_err-skip_value : goal.returns-in_err-skip_value
returns-in_err-skip_value g c = stop _ (next begin c.in_ok-skip_in.ensures.reads) c.from_residual-in_err-skip_value.ensures c.in_err-skip_value.ensures

pub returns : goal.returns
returns g c = done (next (next begin c.in_ok-skip_in.ensures.reads) c.in_ok-skip_value.ensures) refl
