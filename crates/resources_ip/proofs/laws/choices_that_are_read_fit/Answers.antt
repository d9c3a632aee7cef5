use Rattle.resources_ip.proofs.Fitting.{choice_fits}
use Rattle.resources_ip.proofs.WideSets.{fits_whole}
use Rattle.resources_ip.proofs.laws.choices_that_are_read_fit.Goals as goal

pub returns-clause-fits : goal.returns-clause-fits
returns-clause-fits c = choice_fits

pub returns-clause-whole : goal.returns-clause-whole
returns-clause-whole c = fits_whole
