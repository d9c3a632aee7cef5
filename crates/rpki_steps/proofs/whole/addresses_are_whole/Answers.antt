use Rattle.rpki_steps.proofs.WholeLemmas.{cert_whole, own_whole}
use Rattle.rpki_steps.proofs.whole.addresses_are_whole.Goals as goal

pub returns-clause-listed : goal.returns-clause-listed
returns-clause-listed c = cert_whole c.families_that_are_read_fit.ensures.v4 c.choices_that_are_read_fit.ensures.whole

pub returns-clause-own : goal.returns-clause-own
returns-clause-own c = own_whole

pub returns-clause-kept : goal.returns-clause-kept
returns-clause-kept c = c.what_is_kept_is_whole.ensures
