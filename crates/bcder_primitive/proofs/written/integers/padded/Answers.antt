use Rattle.bcder_primitive.proofs.WrittenNumbers.{padded_spells}
use Rattle.bcder_primitive.proofs.written.integers.padded.Goals as goal
use Rattle.std.proofs.Common.{append-nil, arith}

pub returns : goal.returns
returns c = rw (append-nil c.copy_from_slice.new.self, c.copy_from_slice.ensures.after, c.to_be_bytes.ensures) (padded_spells c.args.number (omega (arith, c.ranges.number)))
