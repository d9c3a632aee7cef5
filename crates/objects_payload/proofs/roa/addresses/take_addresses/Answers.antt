use Rattle.std.proofs.Common.{refl}
use Rattle.objects_payload.proofs.of_bcder_content.Forests.{there, absent}
use Rattle.objects_payload.proofs.of_bcder_content.InMode.{items_next_as, items_end, items_stop}
use Rattle.objects_payload.specs.Addresses.{roa_address}
use Rattle.objects_payload.proofs.AddressLemmas.{address_tagged}
use Rattle.objects_payload.proofs.roa.addresses.take_addresses.Goals as goal

pub returns-in_err-address : goal.returns-in_err-address
returns-in_err-address g c = items_stop _ _ c.loop-addresses.invariant c.from_residual.ensures c.in_err-address.ensures.reads

pub loop-addresses-preserved : goal.loop-addresses-preserved
loop-addresses-preserved g c = items_next_as roa_address _ c.loop-addresses.invariant (there _ _ _ c.in-Some.is c.in_ok-address.ensures.reads) c.in_ok-push.ensures.items

pub returns : goal.returns
returns g c = items_end c.loop-addresses.invariant (address_tagged c.args.family) (absent _ _ _ c.in_default.is c.in_ok-address.ensures.reads) refl
