use Rattle.bcder_octets.proofs.Strings.{refused_string}
use Rattle.bcder_octets.proofs.reading.take_content.Goals as goal

pub returns-in-Err-clause-reads : goal.returns-in-Err-clause-reads
returns-in-Err-clause-reads g c = refused_string c.fail.ensures.same c.in-Err.ensures.reads
