use Rattle.std.proofs.Common.{Err, refl}
use Rattle.objects_cms.proofs.of_bcder_content.InMode.{begin, finish, next, stop, stop_all}
use Rattle.objects_rta.proofs.attestation.content.take_behind.Goals as goal

pub returns-in_err-resources : goal.returns-in_err-resources
returns-in_err-resources g c = stop _ begin c.from_residual.ensures c.in_err-resources.ensures.reads

pub returns-in-Ok : goal.returns-in-Ok
returns-in-Ok g c = finish (next begin c.in_ok-resources.ensures.reads) c.in-Ok.ensures.reads refl

pub returns-in-Err : goal.returns-in-Err
returns-in-Err g c = stop_all {r = Err c.in-Err.error} _ (next begin c.in_ok-resources.ensures.reads) (refl, refl) c.in-Err.ensures.reads
