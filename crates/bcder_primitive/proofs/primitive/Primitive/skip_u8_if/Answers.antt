use Rattle.std.proofs.Common.{◌^◌}
use Rattle.bcder_primitive.specs.Values.{IsUnsigned}
use Rattle.bcder_primitive.proofs.Primitives.{value_given, other_value, one_unsigned}
use Rattle.bcder_primitive.proofs.primitive.Primitive.skip_u8_if.Goals as goal

pub returns-then-number-expected-clause-reads : goal.returns-then-number-expected-clause-reads
returns-then-number-expected-clause-reads g c = value_given (IsUnsigned (2 ^ 8)) c.if-number-expected.true c.in_ok-number.ensures.reads

pub returns-clause-reads : goal.returns-clause-reads
returns-clause-reads g c = rw c.content_err.ensures (other_value (IsUnsigned (2 ^ 8)) (λ t. one_unsigned t _ _) c.if-number-expected.false c.in_ok-number.ensures.reads)
