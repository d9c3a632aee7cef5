use Rattle.std.proofs.Common.{length}
use Rattle.objects_payload.proofs.locator.order.+part.Given as goal

abbrev pub decreases-part : goal.decreases-part
decreases-part l = length l.uris.now
