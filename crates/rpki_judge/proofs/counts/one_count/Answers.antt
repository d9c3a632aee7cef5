use Rattle.rpki_judge.proofs.OneCount.{one_count}
use Rattle.rpki_judge.proofs.counts.one_count.Goals as goal

pub returns : goal.returns
returns c = one_count
