use Rattle.std.proofs.Common.{refl}
use Rattle.bcder_content.proofs.Tagged.{octets_tagged_read}
use Rattle.bcder_content.proofs.content.Content.to_null.Goals as goal

pub returns-in-Ok-clause-reads : goal.returns-in-Ok-clause-reads
returns-in-Ok-clause-reads g c = octets_tagged_read c.in-Ok.ensures.same c.in-Ok.ensures.primitive (record { reference = refl }) c.to_null.ensures.reads
