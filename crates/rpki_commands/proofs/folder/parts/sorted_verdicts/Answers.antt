use Rattle.std.proofs.Common.{rules}
use Rattle.rpki_commands.specs.rpki_bundle.Bundle.{verdict_row}
use Rattle.rpki_commands.proofs.Sorting.{sorted_on}
use Rattle.rpki_commands.proofs.folder.parts.sorted_verdicts.Goals as goal

pub returns-clause-sorted : goal.returns-clause-sorted
returns-clause-sorted c = sorted_on verdict_row _ c.sort_unstable_by.ensures.sorted (λ f a r q k. search rules)
