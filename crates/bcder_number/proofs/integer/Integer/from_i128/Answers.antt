use mir.Syntax.{w128}
use Rattle.std.proofs.Math.Facts.{to_z-of_z}
use Rattle.bcder_number.proofs.of_bcder_primitive.WrittenNumbers.{within_type}
use Rattle.bcder_number.proofs.Writings.{signed_memory}
use Rattle.bcder_number.proofs.integer.Integer.from_i128.Goals as goal

pub kept-requires : goal.kept-requires
kept-requires c =
    let refused = rw (to_z-of_z c.ranges.number) at c.to_encoded_bytes.ensures.refused in
    signed_memory c.args.number c.to_encoded_bytes.result (within_type w128 c.args.number c.ranges.number) refused
