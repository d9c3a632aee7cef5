use Rattle.std.proofs.Common.{arith}
use Rattle.bcder.proofs.Numbers.{cut_at, none_ends_at}
use Rattle.bcder.proofs.oid.iter.cut.Goals as goal

pub returns-then-octet-lt128-clause-some : goal.returns-then-octet-lt128-clause-some
returns-then-octet-lt128-clause-some c = rw (c.split_at.ensures.front, c.split_at.ensures.back) (cut_at c.args.octets.now c.loop-index.index (omega arith) c.if-octet-lt128.true c.loop-index.invariant)

pub returns-clause-none : goal.returns-clause-none
returns-clause-none c = none_ends_at 0 c.args.octets.now (λ i h. c.loop-index.invariant i (omega arith))
