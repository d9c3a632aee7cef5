use Rattle.objects_rta_written.proofs.Writing.{said_no, set_listed}
use Rattle.objects_rta_written.proofs.attestation.stated.numbers_of.Goals as goal

pub returns-in-Ok-clause-listed : goal.returns-in-Ok-clause-listed
returns-in-Ok-clause-listed c =
    set_listed c.args.resources.now c.in-Ok.blocks (said_no c.is_missing.ensures c.if-is_missing.false) c.runs_are_maximal.ensures c.in-Ok.ensures.set
    (λ e. let q = c.in-Ok.ensures.inherited.1 e in cc)
