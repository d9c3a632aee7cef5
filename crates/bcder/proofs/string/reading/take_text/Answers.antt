use Rattle.bcder.proofs.Texts.{refused_text}
use Rattle.bcder.proofs.string.reading.take_text.Goals as goal

pub returns-in-Err-clause-reads : goal.returns-in-Err-clause-reads
returns-in-Err-clause-reads g c = refused_text c.fail.ensures.same c.in-Err.ensures.reads
