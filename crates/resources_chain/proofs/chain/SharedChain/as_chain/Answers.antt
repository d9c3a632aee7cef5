use Rattle.std.proofs.Common.{sym, ap, ◌∙◌}
use Rattle.resources_chain.specs.Shared.{shared_runs}
use Rattle.resources_chain.proofs.SetLemmas.{no_list}
use Rattle.resources_chain.proofs.chain.SharedChain.as_chain.Goals as goal

pub returns-in_default-clause-runs : goal.returns-in_default-clause-runs
returns-in_default-clause-runs g c = no_list c.empty.ensures ∙ sym (ap shared_runs c.in_default.is) ∙ c.self.view_is
