use Rattle.certs.specs.Values.{purposes}
use Rattle.certs.proofs.Same.{refused_same}
use Rattle.certs.proofs.written.usages.PurposesValueValues.write_encoded.Goals as goal

pub returns-clause-refused : goal.returns-clause-refused
returns-clause-refused g c = refused_same purposes c.args.mode _ _ _ _ c.self.view_is c.write_encoded.ensures.refused
