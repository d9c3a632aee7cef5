use Rattle.std.proofs.Common.{length}
use Rattle.bcder_source.proofs.limited.advance_all.Given as goal

abbrev pub decreases-loop-count : goal.decreases-loop-count
decreases-loop-count g l = length (g.S.Source.rest l.source)
