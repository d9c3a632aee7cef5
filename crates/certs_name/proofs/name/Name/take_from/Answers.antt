use Rattle.certs_name.specs.bcder_tree.Tree.{none, more}
use Rattle.certs_name.proofs.of_bcder_content.Took.{took_one}
use Rattle.certs_name.proofs.Names.{kept_name, no_name}
use Rattle.certs_name.proofs.name.Name.take_from.Goals as goal

pub capture-captured-requires-clause-reads : goal.capture-captured-requires-clause-reads
capture-captured-requires-clause-reads g c = record { each = λ p q x h. (more h.tree none, took_one h.took) }

pub new-requires : goal.new-requires
new-requires g c = (kept_name (record { each = λ p q r m h. h }) c.in-Ok.ensures.captures).named

pub returns-in-Ok-clause-reads : goal.returns-in-Ok-clause-reads
returns-in-Ok-clause-reads g c = rw c.new.ensures (kept_name (record { each = λ p q r m h. h }) c.in-Ok.ensures.captures).gives

pub returns-in-Err-clause-reads : goal.returns-in-Err-clause-reads
returns-in-Err-clause-reads g c = no_name c.in-Err.error (record { each = λ p q r m h. h }) c.in-Err.ensures.captures
