use Rattle.std.proofs.Common.{length}
use Rattle.objects_cms.specs.bcder_content.Here.{here}
use Rattle.objects_cms.specs.Said.{IsSaid}
use Rattle.objects_cms.specs.Slots.{AreSlots}
use Rattle.objects_cms.proofs.of_bcder_content.Gathering.{Gathered}
use Rattle.objects_cms.proofs.attributes.slots.Slots.take_from.Given as goal

abbrev pub invariant-loop-slots : goal.invariant-loop-slots
invariant-loop-slots g l = Gathered IsSaid AreSlots (here g.S.Source.rest l.fn.cons) (here g.S.Source.rest l.cons) l.slots

abbrev pub decreases-loop-slots : goal.decreases-loop-slots
decreases-loop-slots g l = length (g.S.Source.rest l.cons.octets.source.source)
