use Rattle.std.proofs.Common.{length}
use Rattle.std.specs.Prelude.{All}
use Rattle.objects_written.specs.certs_basics.Basics.{IsTwentyLong}
use Rattle.objects_rta_written.proofs.builder.making.are_long.Given as goal

abbrev pub invariant-loop-key : goal.invariant-loop-key
invariant-loop-key l = All IsTwentyLong l.rest → All IsTwentyLong l.keys

abbrev pub decreases-loop-key : goal.decreases-loop-key
decreases-loop-key l = length l.rest
