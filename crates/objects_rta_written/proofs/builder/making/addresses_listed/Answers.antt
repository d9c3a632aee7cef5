use Rattle.std.proofs.Common.{◌∙◌}
use Rattle.objects_rta_written.proofs.Making.{missing_is}
use Rattle.objects_rta_written.proofs.builder.making.addresses_listed.Goals as goal

pub returns-then-is_empty : goal.returns-then-is_empty
returns-then-is_empty c = c.missing.ensures ∙ missing_is c.args.set c.runs_are_maximal.ensures (c.is_empty.ensures.0 c.if-is_empty.true)
