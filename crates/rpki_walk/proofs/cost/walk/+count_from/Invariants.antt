use Rattle.std.proofs.Common.{length, ◌≡◌, ◌-◌, take}
use Rattle.rpki_walk.proofs.Counting.{CountsFiles}
use Rattle.rpki_walk.proofs.cost.walk.+count_from.Given as goal

abbrev pub decreases-count_from : goal.decreases-count_from
decreases-count_from g l = (g.S.Repository.world l.repository.now).depth - length l.chain.now.keys.now

abbrev pub invariant-loop-file : goal.invariant-loop-file
invariant-loop-file g l = record {
  same : g.S.Repository.world l.repository ≡ g.S.Repository.world l.fn.repository;
  lender : g.S.Repository.lender l.repository ≡ g.S.Repository.lender l.fn.repository;
  budget : l.tally.budget ≡ l.fn.tally.budget;
  counted : CountsFiles (g.S.Repository.world l.fn.repository) l.chain.above.now l.chain.keys.now l.chain.uri.now (g.S.Repository.cert l.ca) (g.S.Repository.sets l.ca) l.fn.tally (take l.file-index l.file-items) l.tally;
}
