use Rattle.std.proofs.Common.{refl}
use Rattle.objects_payload.proofs.of_bcder_content.Choosing.{next_by, stop_by}
use Rattle.objects_payload.proofs.of_bcder_content.InMode.{next, stop, done}
use Rattle.objects_payload.specs.resources_ip_prefix.Meanings.{family_one}
use Rattle.objects_payload.proofs.FamilyLemmas.{begin_family}
use Rattle.objects_payload.proofs.roa.families.RoaIpAddressFamily.from_constructed.Goals as goal

pub returns-in_err-family : goal.returns-in_err-family
returns-in_err-family g c = stop_by _ begin_family c.from_residual.ensures c.in_err-family.ensures.reads

pub returns-in_err-addresses : goal.returns-in_err-addresses
returns-in_err-addresses g c = stop _ (next_by (λ m. family_one) begin_family c.in_ok-family.ensures.reads) c.from_residual-in_err-addresses.ensures c.in_err-addresses.ensures.reads

pub returns : goal.returns
returns g c = done (next (next_by (λ m. family_one) begin_family c.in_ok-family.ensures.reads) c.in_ok-addresses.ensures.reads) refl
