use Rattle.std.proofs.Common.{length}
use Rattle.rpki_judge.proofs.climb.+read_chain.Given as goal

abbrev pub decreases-read_chain : goal.decreases-read_chain
decreases-read_chain g l = length l.chain.now
