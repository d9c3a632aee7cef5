use Rattle.rpki_steps.proofs.Refusing.{refused_is}
use Rattle.rpki_steps.proofs.cert.validated.accepted_or_refused.Goals as goal

pub returns-else-is_memory : goal.returns-else-is_memory
returns-else-is_memory c = refused_is c.args.validated c.in-Err.refused.cert c.in-Err.refused.error c.is_memory.result c.in-Err.is c.is_memory.ensures c.if-is_memory.false
