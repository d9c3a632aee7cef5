use Rattle.std.proofs.Common.{◌∙◌, ap, map}
use Rattle.rpki_validator.specs.rpki_rules.Views.{path_of}
use Rattle.rpki_questions.specs.Orders.{refused_of}
use Rattle.rpki_questions.specs.Told.{facts_text, is_some}
use Rattle.rpki_questions.proofs.FactTexts.{same_facts}
use Rattle.rpki_questions.proofs.telling.told.Goals as goal

pub returns : goal.returns
returns c =
    let same = same_facts refused_of (λ p. path_of p.value) _ c.args.name.now c.in_ok-report.report _ c.in_ok-refused.refused.items _ c.in_ok-chains.chains.items c.as_bytes.ensures.value c.as_slice-2.ensures.value c.as_slice-3.ensures.value in
    record {
      refused = map refused_of c.in_ok-refused.refused.items;
      all = c.in_ok-refused.ensures;
      report = c.in_ok-report.report;
      reported = c.in_ok-report.ensures;
      paths = map (λ p. path_of p.value) c.in_ok-chains.chains.items;
      naming = c.in_ok-chains.ensures;
      some = c.has_fact-yes.ensures ∙ ap is_some same;
      text_is = c.in_ok-text.ensures ∙ ap (facts_text c.args.json) same;
    }
