use Rattle.std.proofs.Common.{◌∙◌, ap}
use Rattle.rpki_questions.specs.Costed.{cost_text}
use Rattle.rpki_questions.proofs.costs.costed.Goals as goal

pub returns : goal.returns
returns c = record {
  cost = c.in_ok-found.found;
  counted = rw c.new-verifier.ensures.index at c.in_ok-found.ensures.cost;
  exact = c.is_exact-yes.ensures;
  text_is = c.in_ok-text.ensures ∙ ap (cost_text c.args.json c.is_exact-yes.result) c.counts_of.ensures;
}
