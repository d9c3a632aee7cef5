use Rattle.resources_asn.proofs.SmallLemmas.{sorted_list}
use Rattle.resources_asn.proofs.Sorting.{sorted_tells}
use Rattle.resources_asn.proofs.small_set.SmallAsnSet.from_vec.Goals as goal

pub returns-clause-set : goal.returns-clause-set
returns-clause-set c =
    sorted_list c.args.asns.items c.sort_unstable.new.self.items c.dedup.new.self.items c.sort_unstable.ensures.permutation c.sort_unstable.ensures.sorted c.dedup.ensures.filtered

pub returns-clause-distinct : goal.returns-clause-distinct
returns-clause-distinct c =
    sorted_tells c.args.asns.items c.sort_unstable.new.self.items c.dedup.new.self.items c.sort_unstable.ensures.permutation c.sort_unstable.ensures.sorted c.dedup.ensures.filtered

pub invariant_of-result : goal.invariant_of-result
invariant_of-result c =
    (sorted_list c.args.asns.items c.sort_unstable.new.self.items c.dedup.new.self.items c.sort_unstable.ensures.permutation c.sort_unstable.ensures.sorted c.dedup.ensures.filtered).ascending
