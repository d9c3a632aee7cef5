use Rattle.bcder_primitive.proofs.Numbers.{few_behind, few_whole}
use Rattle.bcder_primitive.proofs.integers.without_zero.Goals as goal

pub returns-then-first-eq0-clause-few : goal.returns-then-first-eq0-clause-few
returns-then-first-eq0-clause-few c = few_behind c.args.octets.now c.in-len1-up.len_at_least c.if-first-eq0.true

pub returns-clause-few : goal.returns-clause-few
returns-clause-few c s = few_whole c.args.octets.now c.if-first-eq0.false
