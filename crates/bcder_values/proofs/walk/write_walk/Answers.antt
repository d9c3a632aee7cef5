use Rattle.bcder_values.proofs.of_bcder_primitive.Compose.{writer_refused}
use Rattle.bcder_values.proofs.Known.{known}
use Rattle.bcder_values.proofs.walk.write_walk.Goals as goal
use Rattle.std.proofs.Common.{arith}
use Rattle.std.proofs.lemmas.Result.{IfErr-weaker}

pub put_walk-requires : goal.put_walk-requires
put_walk-requires g c = known (omega arith) c.in_ok-len_of_walk.ensures.len

pub returns-clause-refused : goal.returns-clause-refused
returns-clause-refused g c =
    IfErr-weaker _ _ _ (λ e h. writer_refused _ _ _ _ _ e h.0 h.1) c.put_walk.ensures.refused
