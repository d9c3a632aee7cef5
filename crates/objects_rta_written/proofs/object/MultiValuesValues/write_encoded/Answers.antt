use Rattle.objects_rta_written.specs.Frames.{object}
use Rattle.certs.proofs.Same.{refused_same, wrote_same}
use Rattle.objects_rta_written.proofs.object.MultiValuesValues.write_encoded.Goals as goal

pub returns-clause-written : goal.returns-clause-written
returns-clause-written g c = wrote_same object c.args.mode _ _ _ c.self.view_is c.write_encoded.ensures.written

pub returns-clause-refused : goal.returns-clause-refused
returns-clause-refused g c = refused_same object c.args.mode _ _ _ _ c.self.view_is c.write_encoded.ensures.refused
