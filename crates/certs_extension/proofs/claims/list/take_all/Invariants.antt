use Rattle.std.proofs.Common.{length}
use Rattle.certs_extension.specs.bcder_content.Here.{here}
use Rattle.certs_extension.proofs.of_bcder_content.Gathering.{Gathered}
use Rattle.certs_extension.specs.Extensions.{IsExtension}
use Rattle.certs_extension.specs.Slots.{AreSlots}
use Rattle.certs_extension.proofs.claims.list.take_all.Given as goal

abbrev pub invariant-loop-next : goal.invariant-loop-next
invariant-loop-next g l = Gathered IsExtension AreSlots (here g.S.Source.rest l.fn.cons) (here g.S.Source.rest l.cons) l.slots

abbrev pub decreases-loop-next : goal.decreases-loop-next
decreases-loop-next g l = length (g.S.Source.rest l.cons.octets.source.source)
