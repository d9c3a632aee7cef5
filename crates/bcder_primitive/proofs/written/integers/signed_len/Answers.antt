use Rattle.bcder_primitive.proofs.WrittenNumbers.{signed_written, signed_few, within_type}
use Rattle.bcder_primitive.proofs.written.integers.signed_len.Goals as goal
use Rattle.bcder_primitive.specs.Integers.{IsFewest}
use Rattle.std.proofs.Common.{subst}
use Rattle.std.proofs.Math.Facts.{to_z-of_z}
use Rattle.std.specs.Int.{w128}

pub returns-clause-len : goal.returns-clause-len
returns-clause-len c = λ bound low.
    let steps = rw (to_z-of_z c.ranges.number) at c.steps_from_zero.ensures in
    signed_written bound c.args.number c.fewest.result (within_type w128 c.args.number c.ranges.number) low (subst (λ k. IsFewest k c.fewest.result) steps c.fewest.ensures)

pub returns-clause-few : goal.returns-clause-few
returns-clause-few c =
    let steps = rw (to_z-of_z c.ranges.number) at c.steps_from_zero.ensures in
    signed_few c.args.number c.fewest.result (within_type w128 c.args.number c.ranges.number) (subst (λ k. IsFewest k c.fewest.result) steps c.fewest.ensures)
