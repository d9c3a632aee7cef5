use Rattle.std.proofs.Common.{refl}
use Rattle.objects_payload.proofs.of_bcder_content.InMode.{begin, next, stop, next_opt, stop_opt, done}
use Rattle.objects_payload.proofs.of_bcder_content.Unique.{octets_tagged}
use Rattle.objects_payload.proofs.roa.address.RoaIpAddress.take_fields.Goals as goal

pub returns-in_err-prefix : goal.returns-in_err-prefix
returns-in_err-prefix g c = stop _ begin c.from_residual.ensures c.in_err-prefix.ensures.reads

pub returns-in_err-max_length : goal.returns-in_err-max_length
returns-in_err-max_length g c = stop_opt _ (next begin c.in_ok-prefix.ensures.reads) c.from_residual-in_err-max_length.ensures c.in_err-max_length.ensures.reads

pub returns : goal.returns
returns g c = done (next_opt _ (next begin c.in_ok-prefix.ensures.reads) (λ m. octets_tagged _ _) c.in_ok-max_length.ensures.reads) refl
