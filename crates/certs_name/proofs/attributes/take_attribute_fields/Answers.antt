use Rattle.std.proofs.Common.{refl}
use Rattle.certs_name.proofs.of_bcder_content.InMode.{begin, next, stop, done}
use Rattle.certs_name.proofs.attributes.take_attribute_fields.Goals as goal

pub returns-in_err-kind-clause-reads : goal.returns-in_err-kind-clause-reads
returns-in_err-kind-clause-reads g c = stop _ begin c.from_residual.ensures c.in_err-kind.ensures.reads

pub returns-in_err-skip_value-clause-reads : goal.returns-in_err-skip_value-clause-reads
returns-in_err-skip_value-clause-reads g c = stop _ (next begin c.in_ok-kind.ensures.reads) c.from_residual-in_err-skip_value.ensures c.in_err-skip_value.ensures.reads

pub returns-clause-reads : goal.returns-clause-reads
returns-clause-reads g c = done (next (next begin c.in_ok-kind.ensures.reads) c.in_ok-skip_value.ensures.reads) refl
