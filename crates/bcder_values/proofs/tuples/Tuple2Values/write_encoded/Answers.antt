use Rattle.bcder_values.proofs.of_bcder_primitive.Compose.{writer_refused}
use Rattle.bcder_values.proofs.Known.{known}
use Rattle.bcder_values.proofs.tuples.Tuple2Values.write_encoded.Goals as goal
use Rattle.std.proofs.Common.{arith}
use Rattle.std.proofs.lemmas.Result.{IfErr-weaker}

pub write_known-requires : goal.write_known-requires
write_known-requires g c = known (omega arith) c.in_ok-encoded_len.ensures.len

pub returns-clause-refused : goal.returns-clause-refused
returns-clause-refused g c =
    IfErr-weaker _ _ _ (λ e h. writer_refused _ _ _ _ _ e h.0 h.1) c.write_known.ensures.refused
