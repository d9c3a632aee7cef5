use Rattle.std.proofs.Common.{◌↔◌}
use Rattle.objects_payload.specs.resources_chain.Sets.{InRuns}
use Rattle.objects_payload.specs.Covered.{AreHeld}
use Rattle.objects_payload.proofs.covered.are_held.Given as goal

abbrev pub invariant-loop-address : goal.invariant-loop-address
invariant-loop-address l = AreHeld (InRuns l.held) l.addresses ↔ AreHeld (InRuns l.held) l.address-iterator
