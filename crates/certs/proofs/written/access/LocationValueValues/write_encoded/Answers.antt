use Rattle.certs.specs.Values.{location}
use Rattle.certs.proofs.Same.{refused_same}
use Rattle.certs.proofs.written.access.LocationValueValues.write_encoded.Goals as goal

pub returns-clause-refused : goal.returns-clause-refused
returns-clause-refused g c = refused_same location c.args.mode _ _ _ _ c.self.view_is c.write_encoded.ensures.refused
