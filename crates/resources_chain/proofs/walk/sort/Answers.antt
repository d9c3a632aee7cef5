use Rattle.std.proofs.Common.{rules}
use Rattle.std.proofs.lemmas.List.Sorted.{IsNonDecreasingBy-from_sort_by}
use Rattle.resources_chain.proofs.SortLemmas.{permuted, ascending}
use Rattle.resources_chain.proofs.walk.sort.Goals as goal

pub returns-clause-ascending : goal.returns-clause-ascending
returns-clause-ascending g c =
    let items = c.sort_unstable_by.new.self.items in
    ascending g.B.Block.run items (IsNonDecreasingBy-from_sort_by (λ b. (g.B.Block.run b).first) items c.sort_unstable_by.ensures.sorted (λ a r q k. search rules))

pub returns-clause-same : goal.returns-clause-same
returns-clause-same g c = permuted g.B.Block.run c.args.blocks.now.items c.sort_unstable_by.new.self.items c.sort_unstable_by.ensures.permutation
