use Rattle.std.proofs.Common.{[], refl, sym, ◌∙◌}
use Rattle.resources_asn.proofs.ChosenLemmas.{chosen_none}
use Rattle.resources_asn.proofs.selection.SelectionIterator.next.Goals as goal

pub returns-in_default-clause-steps : goal.returns-in_default-clause-steps
returns-in_default-clause-steps c =
    (sym c.self.view_is ∙ c.in_default.ensures.none, chosen_none c.self.inside.choice [] [] refl refl)
