use Rattle.objects_rta_written.proofs.Making.{not_listed}
use Rattle.objects_rta_written.proofs.builder.making.numbers_listed.Goals as goal

pub returns-then-is_empty : goal.returns-then-is_empty
returns-then-is_empty c = not_listed c.args.set c.runs_are_maximal.ensures (c.is_empty.ensures.0 c.if-is_empty.true)
