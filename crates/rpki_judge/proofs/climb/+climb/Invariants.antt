use Rattle.std.proofs.Common.{length}
use Rattle.rpki_judge.proofs.climb.+climb.Given as goal

abbrev pub decreases-climb : goal.decreases-climb
decreases-climb g l = length l.links.now
