use Rattle.std.proofs.Common.{arith, rules, length-set, ◌∙◌}
use Rattle.certs_basics.proofs.Moments.{pairs_shape, pairs_at, pairs_from, pairs_more}
use Rattle.certs_basics.proofs.time.time.pairs.Goals as goal

pub returns-then-text-ne15-clause-none : goal.returns-then-text-ne15-clause-none
returns-then-text-ne15-clause-none c = λ p h. let shape = pairs_shape _ p h in search rules

pub loop-i-preserved : goal.loop-i-preserved
loop-i-preserved c =
    let found = c.in_ok-number.ensures.found in
    let before = c.loop-i.invariant in
    record { count = length-set _ _ _ ∙ before.count; each = pairs_more _ _ _ _ before.count c.loop-i-test.true found.0 found.1 before.each }

pub returns-in_err-number-clause-none : goal.returns-in_err-number-clause-none
returns-in_err-number-clause-none c =
    rw c.from_residual.ensures (λ p h. c.in_err-number.ensures.none _ ((pairs_at _ p c.loop-i.i h c.loop-i-test.true).1))

pub returns-clause-found : goal.returns-clause-found
returns-clause-found c =
    let filled = c.loop-i.invariant in
    pairs_from _ _ filled.count (omega arith) (omega arith) (λ k h. filled.each k (omega arith))
