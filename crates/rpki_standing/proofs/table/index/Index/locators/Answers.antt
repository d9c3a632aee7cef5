use Rattle.std.proofs.Common.{List, ℕ, map, subst}
use Rattle.rpki_standing.specs.rpki_bundle.Bundle.{BundleValue}
use Rattle.rpki_standing.specs.rpki_bundle.declared.parts.Locator.{Locator}
use Rattle.rpki_rules.specs.Words.{NoRepeat}
use Rattle.rpki_standing.proofs.Lists.{ascends_once}
use Rattle.rpki_standing.proofs.table.index.Index.locators.Goals as goal

pub returns-clause-apart : goal.returns-clause-apart
returns-clause-apart c =
    let names : List Locator → List (List ℕ) = map (λ (l : Locator). l.name) in
    subst (λ (b : BundleValue). NoRepeat (names b.locators)) c.self.view_is (ascends_once (names c.self.inside.bundle.now.locators) c.self.invariant.locators.ascend)
