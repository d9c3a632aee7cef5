use Rattle.certs.proofs.Readable.{read_is_readable}
use Rattle.certs.proofs.again.laws.what_is_read_is_readable.Goals as goal

pub returns : goal.returns
returns c = read_is_readable c.families_that_are_read_fit.ensures.v4 c.families_that_are_read_fit.ensures.any c.choices_that_are_read_fit.ensures.whole
