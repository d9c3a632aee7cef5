use Rattle.std.proofs.Common.{rules}
use Rattle.rpki_questions.proofs.judging.judged.Goals as goal

pub returns : goal.returns
returns c = record {
  points = c.in_ok-judgement.judgement.points;
  judged = rw c.new-verifier.ensures.index at c.in_ok-judgement.ensures.judged;
  read = rw c.new-verifier.ensures.index at c.in_ok-judgement.ensures.read;
  text_is = search rules;
}
