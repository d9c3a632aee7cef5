use Rattle.bcder_tree.proofs.Lengths.{shortest_size}
use Rattle.bcder_tree.proofs.length.shortest_len.Goals as goal

pub returns-then-size-lt128-clause-len : goal.returns-then-size-lt128-clause-len
returns-then-size-lt128-clause-len c = λ text h. (shortest_size text c.args.size h).one c.if-size-lt128.true

pub returns-then-size-lt256-clause-len : goal.returns-then-size-lt256-clause-len
returns-then-size-lt256-clause-len c = λ text h. (shortest_size text c.args.size h).two c.if-size-lt128.false c.if-size-lt256.true

pub returns-then-size-lt65536-clause-len : goal.returns-then-size-lt65536-clause-len
returns-then-size-lt65536-clause-len c = λ text h. (shortest_size text c.args.size h).three c.if-size-lt256.false c.if-size-lt65536.true

pub returns-then-size-lt16777216-clause-len : goal.returns-then-size-lt16777216-clause-len
returns-then-size-lt16777216-clause-len c = λ text h. (shortest_size text c.args.size h).four c.if-size-lt65536.false c.if-size-lt16777216.true

pub returns-clause-len : goal.returns-clause-len
returns-clause-len c = λ text h. (shortest_size text c.args.size h).five c.if-size-lt16777216.false
