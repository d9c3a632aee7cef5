use Rattle.std.proofs.Common.{arith}
use Rattle.certs_basics.proofs.Centuries.{century_spelled_early, century_spelled_late}
use Rattle.certs_basics.proofs.time.text.with_century.Goals as goal
use Rattle.certs_basics.proofs.time.text.with_century.Goals.{then-y-lt53, else-y-lt53}

pub returns-clause-some : goal.returns-clause-some
returns-clause-some c = elim c.if-y-lt53.branch [
  | then-y-lt53 w ↦ century_spelled_early c.args.text.now c.if-y-lt53.first (omega arith) w.if-y-lt53.true w.first-is
  | else-y-lt53 w ↦ century_spelled_late c.args.text.now c.if-y-lt53.first (omega arith) w.if-y-lt53.false w.first-is
]
