use Rattle.certs_x509.proofs.Serials.{sorted_rises, sorted_same}
use Rattle.certs_x509.proofs.revoked.cache.SerialCache.new.Goals as goal

pub invariant_of-result : goal.invariant_of-result
invariant_of-result c = sorted_rises c.sort_unstable.new.self.items _ c.sort_unstable.ensures.sorted c.dedup.ensures.filtered

pub returns-clause-rises : goal.returns-clause-rises
returns-clause-rises c = sorted_rises c.sort_unstable.new.self.items _ c.sort_unstable.ensures.sorted c.dedup.ensures.filtered

pub returns-clause-same : goal.returns-clause-same
returns-clause-same c = λ n. sorted_same c.args.list.now c.in_ok-serials.serials.items _ _ c.in_ok-serials.ensures c.sort_unstable.ensures.permutation c.dedup.ensures.filtered n
