use Rattle.rpki_questions.proofs.refused.diagnoses_of.Goals as goal

pub returns : goal.returns
returns c = rw c.new-verifier.ensures.index at c.diagnose.ensures.diagnoses
