use Rattle.std.proofs.Common.{refl}
use Rattle.objects_cms.proofs.of_bcder_content.InMode.{begin, done, next, stop}
use Rattle.objects_cms.proofs.signed.content.take_fields.Goals as goal

pub returns-in_err-oid : goal.returns-in_err-oid
returns-in_err-oid g c = stop _ begin c.from_residual.ensures c.in_err-oid.ensures.reads

pub returns-in_err-octets : goal.returns-in_err-octets
returns-in_err-octets g c = stop _ (next begin c.in_ok-oid.ensures.reads) c.from_residual-in_err-octets.ensures c.in_err-octets.ensures

pub returns : goal.returns
returns g c = done (next (next begin c.in_ok-oid.ensures.reads) c.in_ok-octets.ensures) refl
