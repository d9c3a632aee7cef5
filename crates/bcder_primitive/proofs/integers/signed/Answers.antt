use Rattle.std.proofs.Common.{arith}
use Rattle.bcder_primitive.proofs.Numbers.{few_signed, signed_positive, signed_negative, all_octets}
use Rattle.bcder_primitive.proofs.integers.signed.Goals as goal

pub returns-then-octets-gt16-clause-none : goal.returns-then-octets-gt16-clause-none
returns-then-octets-gt16-clause-none c n s = omega (arith, few_signed c.args.octets.now n (omega arith) s)

pub returns-then-first-lt128-clause-found : goal.returns-then-first-lt128-clause-found
returns-then-first-lt128-clause-found c =
    signed_positive (all_octets _ c.type_inv.octets) (c.is_shortest.ensures.0 c.if-not-is_shortest.false) c.in-len1-up.len_at_least c.if-first-lt128.true c.number-number.ensures c.if-number-max.false c.requires

pub returns-clause-found : goal.returns-clause-found
returns-clause-found c =
    signed_negative (all_octets _ c.type_inv.octets) (c.is_shortest.ensures.0 c.if-not-is_shortest.false) c.in-len1-up.len_at_least c.if-first-lt128.false c.missing-missing.ensures c.if-missing-max.false c.requires
