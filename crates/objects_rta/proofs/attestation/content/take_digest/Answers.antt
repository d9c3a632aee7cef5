use Rattle.std.proofs.Common.{refl}
use Rattle.objects_cms.proofs.of_bcder_content.InMode.{begin, done, next, stop}
use Rattle.objects_rta.proofs.attestation.content.take_digest.Goals as goal

pub returns-in_err-algorithm : goal.returns-in_err-algorithm
returns-in_err-algorithm g c = stop _ begin c.from_residual.ensures c.in_err-algorithm.ensures.reads

pub returns-in_err-digest : goal.returns-in_err-digest
returns-in_err-digest g c = stop _ (next begin c.in_ok-algorithm.ensures.reads) c.from_residual-in_err-digest.ensures c.in_err-digest.ensures.reads

pub returns : goal.returns
returns g c = done (next (next begin c.in_ok-algorithm.ensures.reads) c.in_ok-digest.ensures.reads) refl
