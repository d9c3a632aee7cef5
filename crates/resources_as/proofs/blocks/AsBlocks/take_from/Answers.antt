use Rattle.resources_as.proofs.of_bcder_content.Inside.{exact_each}
use Rattle.resources_as.proofs.Again.{given_set}
use Rattle.resources_as.proofs.blocks.AsBlocks.take_from.Goals as goal

pub returns-clause-reads : goal.returns-clause-reads
returns-clause-reads g c = exact_each (record { each = λ p q r m h. h }) c.take_sequence.ensures.ran

pub returns-clause-maximal : goal.returns-clause-maximal
returns-clause-maximal g c = given_set _ _ c.take_sequence.result (returns-clause-reads g c)
