use Rattle.std.proofs.Common.{refl}
use Rattle.certs_extension.proofs.of_bcder_content.Forests.{there, absent}
use Rattle.certs_extension.proofs.of_bcder_content.InMode.{items_next_as, items_end, items_stop}
use Rattle.certs_extension.proofs.of_bcder_content.Unique.{octets_tagged}
use Rattle.certs_extension.specs.Purposes.{purpose_octets}
use Rattle.certs_extension.proofs.purposes.take_oids.Goals as goal

pub returns-in_err-purpose : goal.returns-in_err-purpose
returns-in_err-purpose g c = items_stop _ _ c.loop-purposes.invariant c.from_residual.ensures c.in_err-purpose.ensures.reads

pub loop-purposes-preserved : goal.loop-purposes-preserved
loop-purposes-preserved g c = items_next_as purpose_octets _ c.loop-purposes.invariant (there _ _ _ c.in-Some.is c.in_ok-purpose.ensures.reads) c.in_ok-push.ensures.items

pub returns : goal.returns
returns g c = items_end c.loop-purposes.invariant (λ m. octets_tagged _ _) (absent _ _ _ c.in_default.is c.in_ok-purpose.ensures.reads) refl
