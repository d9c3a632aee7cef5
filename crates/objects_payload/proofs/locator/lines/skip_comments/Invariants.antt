use Rattle.std.proofs.Common.{length}
use Rattle.objects_payload.specs.Lines.{HasComments}
use Rattle.objects_payload.proofs.locator.lines.skip_comments.Given as goal

abbrev pub invariant-loop-behind : goal.invariant-loop-behind
invariant-loop-behind l = HasComments l.rest l.text

abbrev pub decreases-loop-behind : goal.decreases-loop-behind
decreases-loop-behind l = length l.rest
