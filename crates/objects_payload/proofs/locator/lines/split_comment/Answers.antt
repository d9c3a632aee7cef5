use Rattle.objects_payload.proofs.LineTexts.{comment_none}
use Rattle.objects_payload.proofs.locator.lines.split_comment.Goals as goal

pub returns-in_err-line : goal.returns-in_err-line
returns-in_err-line c = rw c.from_residual.ensures (comment_none c.args.text.now c.in_err-line.ensures)
