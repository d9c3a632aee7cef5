use Rattle.certs.specs.Values.{location}
use Rattle.certs.proofs.Same.{no_len_same}
use Rattle.certs.proofs.written.access.LocationValueValues.encoded_len.Goals as goal

pub returns-clause-refused : goal.returns-clause-refused
returns-clause-refused c = no_len_same location c.args.mode _ c.self.view_is c.encoded_len.ensures.refused
