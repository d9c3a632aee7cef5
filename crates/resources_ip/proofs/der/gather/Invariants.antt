use Rattle.std.proofs.Common.{length}
use Rattle.resources_ip.specs.bcder_content.Here.{here}
use Rattle.resources_ip.proofs.Gathered.{Gathered}
use Rattle.resources_ip.proofs.der.gather.Given as goal

abbrev pub invariant-loop-blocks : goal.invariant-loop-blocks
invariant-loop-blocks g l = Gathered l.fn.family l.blocks (here g.S.Source.rest l.fn.cons) (here g.S.Source.rest l.cons)

abbrev pub decreases-loop-blocks : goal.decreases-loop-blocks
decreases-loop-blocks g l = length (g.S.Source.rest l.cons.octets.source.source)
