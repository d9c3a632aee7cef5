use Rattle.std.proofs.Common.{◌∙◌}
use Rattle.rpki_validator.specs.rpki_rules.Views.{path_of, witness_of}
use Rattle.rpki_questions.specs.Orders.{refused_of}
use Rattle.rpki_questions.proofs.FactTexts.{some_whole}
use Rattle.rpki_questions.proofs.telling.has_fact.Goals as goal

pub returns : goal.returns
returns c =
    c.is_any.ensures
    ∙ some_whole refused_of witness_of (λ p. path_of p.value) c.args.found.now.name.now c.args.found.now.key.now c.args.found.now.report.now c.args.found.now.refused.now c.witnesses.result.now c.args.found.now.chains.now c.requires c.witnesses.ensures
    c.has_any-refused.result c.has_any-good.result c.has_any-named.result c.has_any-refused.ensures c.has_any-good.ensures c.has_any-named.ensures
