use Rattle.bcder_content.proofs.Kept.{exact_all, wants_unended}
use Rattle.bcder_content.proofs.Memories.{unended_if}
use Rattle.bcder_content.proofs.constructed.Constructed.capture_all.Goals as goal

pub returns-clause-captured : goal.returns-clause-captured
returns-clause-captured g c = (exact_all (record { skipped = λ p q m. m.0; refused = λ p q x pos m. m.1.0 }) c.capture.ensures.captures).0

pub returns-clause-refused : goal.returns-clause-refused
returns-clause-refused g c = (exact_all (record { skipped = λ p q m. m.0; refused = λ p q x pos m. m.1.0 }) c.capture.ensures.captures).1

pub returns-clause-memory : goal.returns-clause-memory
returns-clause-memory g c = unended_if c.capture.result (wants_unended (λ p q m. m.1.1)) c.capture.ensures.memory
