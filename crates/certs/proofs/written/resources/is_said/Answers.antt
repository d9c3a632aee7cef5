use Rattle.certs.proofs.Said.{says}
use Rattle.certs.proofs.written.resources.is_said.Goals as goal

pub returns : goal.returns
returns c = says _ _ c.is_present.ensures
