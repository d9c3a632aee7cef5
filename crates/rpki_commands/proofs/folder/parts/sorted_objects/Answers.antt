use Rattle.std.proofs.Common.{rules}
use Rattle.rpki_commands.proofs.Sorting.{sorted_on}
use Rattle.rpki_commands.proofs.folder.parts.sorted_objects.Goals as goal

pub returns-clause-sorted : goal.returns-clause-sorted
returns-clause-sorted c = sorted_on (λ x. x.uri) _ c.sort_unstable_by.ensures.sorted (λ f a r q k. search rules)
