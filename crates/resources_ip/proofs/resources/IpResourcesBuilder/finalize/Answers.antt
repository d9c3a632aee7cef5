use Rattle.std.proofs.Common.{rules}
use Rattle.resources_ip.specs.resources_chain.Choices.{IsChoiceOf}
use Rattle.resources_ip.proofs.Fitting.{chosen_fits}
use Rattle.resources_ip.proofs.resources.IpResourcesBuilder.finalize.Goals as goal

pub returns-clause-fits_v4 : goal.returns-clause-fits_v4
returns-clause-fits_v4 c =
    let chosen : IsChoiceOf c.args.self c.match-self.result = search rules in
    chosen_fits c.args.self c.match-self.result chosen
