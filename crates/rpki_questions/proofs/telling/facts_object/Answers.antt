use Rattle.std.proofs.Common.{codes}
use Rattle.rpki_validator.specs.rpki_rules.Views.{path_of, witness_of}
use Rattle.rpki_questions.specs.Orders.{refused_of}
use Rattle.rpki_questions.proofs.FactTexts.{object_whole}
use Rattle.rpki_questions.proofs.telling.facts_object.Goals as goal

pub returns : goal.returns
returns c =
    object_whole refused_of witness_of (λ p. path_of p.value) c.args.found.now.name.now c.args.found.now.key.now c.args.found.now.report.now c.args.found.now.refused.now c.witnesses.result.now c.args.found.now.chains.now c.requires c.witnesses.ensures
    (codes "{\"refused\":") (codes ",\"good\":") (codes ",\"chains\":") (codes "}\n")
    _ _ _ _ _ _ _ _ c.new-text.ensures.items c.in_ok-extend_from_slice.ensures.items c.in_ok-push_fact_array.ensures c.in_ok-extend_from_slice-2.ensures.items c.in_ok-push_fact_array-2.ensures c.in_ok-extend_from_slice-3.ensures.items c.in_ok-push_fact_array-3.ensures c.in_ok-extend_from_slice-4.ensures.items
