use Rattle.rpki_steps.specs.resources_chain.Sets.{InRuns}
use Rattle.rpki_standing.specs.objects_payload.Covered.{IsHeld}
use Rattle.rpki_standing.proofs.PassedTo.{PassedTo}
use Rattle.rpki_steps.proofs.object.payload.first_unheld.Given as goal

abbrev pub invariant-loop-address : goal.invariant-loop-address
invariant-loop-address l = PassedTo (IsHeld (InRuns l.held)) l.addresses l.address-iterator
