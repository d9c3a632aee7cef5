use Rattle.bcder_number.proofs.Writings.{len_refused}
use Rattle.bcder_number.proofs.encode.IntegerPrimitiveContent.encoded_len.Goals as goal

pub returns-clause-refused : goal.returns-clause-refused
returns-clause-refused c = len_refused c.args.mode c.as_slice.result.now c.args.self.now c.encoded_len.result c.as_slice.ensures c.encoded_len.ensures.refused
