use Rattle.std.proofs.Common.{refl}
use Rattle.bcder_example.proofs.of_bcder_content.InMode.{begin, next, stop, done}
use Rattle.bcder_example.proofs.lists.take_entry_fields.Goals as goal

pub returns-in_err-kind : goal.returns-in_err-kind
returns-in_err-kind g c = stop _ begin c.from_residual.ensures c.in_err-kind.ensures.reads

pub returns-in_err-size : goal.returns-in_err-size
returns-in_err-size g c = stop _ (next begin c.in_ok-kind.ensures.reads) c.from_residual-in_err-size.ensures c.in_err-size.ensures.reads

pub returns : goal.returns
returns g c = done (next (next begin c.in_ok-kind.ensures.reads) c.in_ok-size.ensures.reads) refl
