use Rattle.resources_as.proofs.of_bcder_content.Inside.{exact_each}
use Rattle.resources_as.proofs.of_bcder_content.Choices.{as_reads}
use Rattle.resources_as.proofs.Again.{given_resources}
use Rattle.resources_as.specs.Encodings.{AreAsIdentifiers, innermost, only_choice}
use Rattle.resources_as.specs.bcder_tree.Tags.{sequence_tag}
use Rattle.resources_as.specs.bcder_content.Grammar.{Inside}
use Rattle.resources_as.specs.bcder_content.Here.{here}
use Rattle.resources_as.proofs.resources.AsResources.take_from.Goals as goal

pub returns-clause-reads : goal.returns-clause-reads
returns-clause-reads g c =
    let rest = g.S.Source.rest in
    let reads = exact_each (record { each = λ p q r m h. h }) c.take_sequence.ensures.ran in
    as_reads (λ r. (only_choice r, tt)) (Inside sequence_tag AreAsIdentifiers) innermost (here rest c.args.cons.now) (here rest c.take_sequence.new.self) c.take_sequence.result reads

pub returns-clause-maximal : goal.returns-clause-maximal
returns-clause-maximal g c = given_resources _ _ c.take_sequence.result (returns-clause-reads g c)
