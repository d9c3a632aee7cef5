use Rattle.bcder_primitive.proofs.Booleans.{one_octet}
use Rattle.bcder_primitive.proofs.written.simple.BoolPrimitiveContent.encoded_len.Goals as goal

pub returns-clause-len : goal.returns-clause-len
returns-clause-len c = one_octet c.args.self.now
