use Rattle.resources_as.proofs.Texts.{choice_printed}
use Rattle.resources_as.proofs.resources.AsResourcesDisplay.fmt.Goals as goal

pub returns-clause-writes : goal.returns-clause-writes
returns-clause-writes g c = rw (choice_printed _, c.self.view_is) at c.fmt.ensures.writes
