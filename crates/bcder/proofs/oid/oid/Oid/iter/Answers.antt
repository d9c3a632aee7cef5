use Rattle.bcder.proofs.Parts.{has_components}
use Rattle.bcder.proofs.oid.oid.Oid.iter.Goals as goal

pub returns-clause-components : goal.returns-clause-components
returns-clause-components g c = rw (c.new.ensures, c.as_slice.ensures) (has_components (g.T.AsSlice.items c.args.self.now.0))
