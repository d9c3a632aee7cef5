use Rattle.rpki_validator.specs.rpki_rules.Views.{path_of, witness_of}
use Rattle.rpki_questions.specs.Orders.{refused_of}
use Rattle.rpki_questions.proofs.FactTexts.{lines_whole}
use Rattle.rpki_questions.proofs.telling.facts_lines.Goals as goal

pub returns : goal.returns
returns c =
    lines_whole refused_of witness_of (λ p. path_of p.value) c.args.found.now.name.now c.args.found.now.key.now c.args.found.now.report.now c.args.found.now.refused.now c.witnesses.result.now c.args.found.now.chains.now c.requires c.witnesses.ensures
    _ _ _ _ c.new-text.ensures.items c.in_ok-push_facts.ensures c.in_ok-push_facts-2.ensures c.in_ok-push_facts-3.ensures
