use Rattle.std.proofs.Common.{◌^◌, arith}
use Rattle.std.specs.Prelude.{pos}
use Rattle.std.proofs.lemmas.Result.{IfOk-at_ok}
use Rattle.bcder_number.specs.bcder_primitive.Integers.{WritesUnsigned}
use Rattle.bcder_number.proofs.Writings.{unsigned_memory, unsigned_integer}
use Rattle.bcder_number.proofs.integer.Integer.from_u128.Goals as goal

pub kept-requires : goal.kept-requires
kept-requires c = unsigned_memory c.args.number c.to_encoded_bytes.result (omega (arith, c.ranges.number)) c.to_encoded_bytes.ensures.refused

pub new-requires : goal.new-requires
new-requires c = (pos c.args.number, unsigned_integer (IfOk-at_ok (WritesUnsigned (2 ^ 128) c.args.number) c.in_ok-octets.ensures c.to_encoded_bytes.ensures.encoded))
