use Rattle.bcder_content.proofs.Kept.{exact_one, keeps_goes, wants_unended}
use Rattle.bcder_content.proofs.Memories.{unended_if}
use Rattle.bcder_content.specs.bcder_tree.Tree.{none, more}
use Rattle.bcder_content.proofs.Took.{took_one}
use Rattle.bcder_content.proofs.constructed.Constructed.capture_one.Goals as goal

pub capture-requires-clause-reads : goal.capture-requires-clause-reads
capture-requires-clause-reads g c = record { each = λ p q x m. (more m.0.tree none, took_one m.0.took) }

pub returns-clause-captured : goal.returns-clause-captured
returns-clause-captured g c = exact_one (record { each = λ p q r m. m.0 }) c.capture.ensures.captures

pub returns-clause-goes : goal.returns-clause-goes
returns-clause-goes g c = keeps_goes c.capture.result c.capture.ensures.captures

pub returns-clause-memory : goal.returns-clause-memory
returns-clause-memory g c = unended_if c.capture.result (wants_unended (λ p q m. m.1)) c.capture.ensures.memory
