use Rattle.std.proofs.Common.{length}
use Rattle.bcder_octets.specs.bcder_content.Here.{here}
use Rattle.bcder_octets.proofs.Gathering.{PartsUnder}
use Rattle.bcder_octets.proofs.reading.skip_parts.Given as goal

abbrev pub invariant-loop-error : goal.invariant-loop-error
invariant-loop-error g l = record { under : PartsUnder l.fn.nested (here g.S.Source.rest l.fn.cons) (here g.S.Source.rest l.cons) }

abbrev pub decreases-loop-error : goal.decreases-loop-error
decreases-loop-error g l = length (g.S.Source.rest l.cons.octets.source.source)
