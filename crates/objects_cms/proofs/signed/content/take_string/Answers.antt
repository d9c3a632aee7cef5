use Rattle.std.proofs.Common.{refl}
use Rattle.objects_cms.proofs.of_bcder_content.InMode.{begin, done, next, stop}
use Rattle.objects_cms.proofs.signed.content.take_string.Goals as goal

pub returns-in_err-octets : goal.returns-in_err-octets
returns-in_err-octets g c = stop _ begin c.from_residual.ensures c.in_err-octets.ensures.reads

pub returns : goal.returns
returns g c = done (next begin c.in_ok-octets.ensures.reads) refl
