use Rattle.std.proofs.Common.{◌∙◌, List, ap, map}
use Rattle.rpki_questions.specs.Lists.{is_some_list}
use Rattle.rpki_questions.specs.Orders.{refused_of}
use Rattle.rpki_questions.specs.Refused.{refusals_text}
use Rattle.rpki_questions.specs.declared.refused.Refused.{Refused}
use Rattle.rpki_questions.proofs.refusals.told_refusals.Goals as goal

pub returns : goal.returns
returns c = record {
  refused = map refused_of c.in_ok-found.found.items;
  all = c.in_ok-found.ensures;
  some = c.is_some-yes.ensures ∙ ap (λ (l : List Refused). is_some_list (map refused_of l)) c.as_slice-found.ensures.value;
  text_is = c.in_ok-text.ensures ∙ ap (λ (l : List Refused). refusals_text c.args.json (map refused_of l)) c.as_slice-found.ensures.value;
}
