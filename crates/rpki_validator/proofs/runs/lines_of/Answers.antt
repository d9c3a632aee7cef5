use Rattle.rpki_validator.proofs.Printing.{lines_output}
use Rattle.rpki_validator.proofs.runs.lines_of.Goals as goal

pub returns : goal.returns
returns c = lines_output c.render.result c.args.report.now c.render.ensures.lines
