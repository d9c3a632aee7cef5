use Rattle.std.proofs.Common.{All, ap, ◌∙◌, subst, arith}
use Rattle.rpki_standing.specs.rpki_bundle.Bundle.{BundleValue}
use Rattle.rpki_standing.specs.rpki_bundle.Lawful.{IsLawfulVerdict}
use Rattle.rpki_standing.proofs.Tables.{found_told}
use Rattle.rpki_standing.proofs.table.index.Index.has_verdict.Goals as goal

pub returns-clause-answer : goal.returns-clause-answer
returns-clause-answer c =
    found_told c.verdicts.result.now c.args.self.now.verdicts c.args.sought c.search.result c.is_some.result (c.verdicts.ensures ∙ ap (λ (b : BundleValue). b.verdicts) c.self.view_is)
    (subst (λ (b : BundleValue). All IsLawfulVerdict b.verdicts) c.self.view_is c.self.invariant.verdicts.each) (omega arith, omega arith, omega arith) c.is_some.ensures c.search.ensures.place
