use Rattle.rpki_questions.proofs.telling.report_of.Goals as goal

pub returns : goal.returns
returns c = rw c.new-verifier.ensures.index at c.walk.ensures.report
