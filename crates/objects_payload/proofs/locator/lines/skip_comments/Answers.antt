use Rattle.objects_payload.proofs.LineTexts.{comment_more}
use Rattle.objects_payload.proofs.locator.lines.skip_comments.Goals as goal

pub loop-behind-preserved : goal.loop-behind-preserved
loop-behind-preserved c = comment_more c.args.text.now c.loop-behind.rest.now c.in-Some.behind.now c.loop-behind.invariant c.in-Some.ensures
