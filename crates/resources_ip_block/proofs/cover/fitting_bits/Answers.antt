use Rattle.std.proofs.Common.{arith}
use Rattle.resources_ip_block.proofs.Counting.{highest}
use Rattle.resources_ip_block.proofs.cover.fitting_bits.Goals as goal

pub returns-in-Some-clause-fits : goal.returns-in-Some-clause-fits
returns-in-Some-clause-fits c = omega (arith, (highest c.in-Some.count (omega (arith, c.in-Some.ensures)) (omega (arith, c.in-Some.ensures))).0, c.in-Some.ensures)

pub returns-in-Some-clause-most : goal.returns-in-Some-clause-most
returns-in-Some-clause-most c k short le = (highest c.in-Some.count (omega (arith, c.in-Some.ensures)) (omega (arith, c.in-Some.ensures))).1 k (omega (arith, le, c.in-Some.ensures))
