use Rattle.bcder_number.proofs.Writings.{write_refused}
use Rattle.bcder_number.proofs.encode.IntegerPrimitiveContent.write_encoded.Goals as goal

pub returns-clause-refused : goal.returns-clause-refused
returns-clause-refused g c = write_refused c.args.mode c.as_slice.result.now c.args.self.now _ _ _ c.write_encoded.result c.as_slice.ensures c.write_encoded.ensures.refused
