use Rattle.std.proofs.Common.{◌∙◌, rules}
use Rattle.rpki_validator.specs.rpki_walk.Naming.{answer_of}
use Rattle.rpki_questions.proofs.reaching.reached.Goals as goal

pub returns : goal.returns
returns c = record {
  answer = answer_of c.in_ok-found.found;
  reached = rw (c.new-verifier.ensures.index, c.as_slice.ensures.value ∙ c.in_ok-uris.ensures) at c.in_ok-found.ensures.reach;
  some = c.reaches_some-yes.ensures;
  text_is = search rules;
}
