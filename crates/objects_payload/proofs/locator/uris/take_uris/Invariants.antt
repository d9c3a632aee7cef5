use Rattle.std.proofs.Common.{length, map}
use Rattle.objects_payload.specs.Faults.{HasUris}
use Rattle.objects_payload.specs.Uris.{text_of}
use Rattle.objects_payload.proofs.locator.uris.take_uris.Given as goal

abbrev pub invariant-loop-line : goal.invariant-loop-line
invariant-loop-line l = HasUris (map text_of l.uris.items) l.rest l.text

abbrev pub decreases-loop-line : goal.decreases-loop-line
decreases-loop-line l = length l.rest
