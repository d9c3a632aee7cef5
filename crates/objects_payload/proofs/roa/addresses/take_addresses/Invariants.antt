use Rattle.std.proofs.Common.{length, map}
use Rattle.objects_payload.specs.bcder_content.Here.{here}
use Rattle.objects_payload.proofs.of_bcder_content.InMode.{Items}
use Rattle.objects_payload.specs.Addresses.{AreAddresses, IsAddressOf, roa_address}
use Rattle.objects_payload.proofs.roa.addresses.take_addresses.Given as goal

abbrev pub invariant-loop-addresses : goal.invariant-loop-addresses
invariant-loop-addresses g l = Items (AreAddresses l.fn.family) (IsAddressOf l.fn.family) (λ xs. xs) (map roa_address l.addresses.items) (here g.S.Source.rest l.fn.cons) (here g.S.Source.rest l.cons)

abbrev pub decreases-loop-addresses : goal.decreases-loop-addresses
decreases-loop-addresses g l = length (g.S.Source.rest l.cons.octets.source.source)
