use Rattle.rpki_bundle.proofs.of_bcder_content.Choices.{gives_same}
use Rattle.rpki_bundle.proofs.forms.VerdictEntry.take_opt.Goals as goal

pub returns-in-Ok-Some-clause-reads : goal.returns-in-Ok-Some-clause-reads
returns-in-Ok-Some-clause-reads g c =
    let t = rw c.in-Ok-Some.field-0-is at c.in-Ok-Some.ensures.reads in
    gives_same c.verdict.ensures t
