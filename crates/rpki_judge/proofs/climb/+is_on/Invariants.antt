use Rattle.std.proofs.Common.{length}
use Rattle.rpki_judge.proofs.climb.+is_on.Given as goal

abbrev pub decreases-is_on : goal.decreases-is_on
decreases-is_on g l = length l.links.now
