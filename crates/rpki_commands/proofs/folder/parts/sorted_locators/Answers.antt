use Rattle.std.proofs.Common.{rules}
use Rattle.rpki_commands.proofs.Sorting.{sorted_on}
use Rattle.rpki_commands.proofs.folder.parts.sorted_locators.Goals as goal

pub returns-clause-sorted : goal.returns-clause-sorted
returns-clause-sorted c = sorted_on (λ x. x.name) _ c.sort_unstable_by.ensures.sorted (λ f a r q k. search rules)
