use Rattle.rpki_steps.proofs.FileLemmas.{bad, filed}
use Rattle.rpki_steps.proofs.file.read_file.Goals as goal

pub returns-in-Ok-clause-filed : goal.returns-in-Ok-clause-filed
returns-in-Ok-clause-filed g c =
    λ l. filed _ c.args.ca.now c.args.point.now.point c.args.uri.now c.in-Ok.filed ((rw c.in-Ok.is at c.in_ok-filed.ensures.judged) l)

pub returns-in-Err-clause-filed : goal.returns-in-Err-clause-filed
returns-in-Err-clause-filed g c =
    λ l. bad _ c.args.ca.now c.args.point.now.point c.args.uri.now c.in-Err.reason ((rw c.in-Err.is at c.in_ok-filed.ensures.judged) l)
