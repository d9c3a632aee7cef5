use Rattle.bcder_values.proofs.of_bcder_primitive.Compose.{writer_refused}
use Rattle.bcder_values.proofs.Known.{known}
use Rattle.bcder_values.proofs.items.write_each.Goals as goal
use Rattle.std.proofs.Common.{refl, arith}
use Rattle.std.proofs.lemmas.Result.{IfErr-weaker}

pub put_each-requires : goal.put_each-requires
put_each-requires g c = λ k. ((refl, tt), known (omega arith) c.in_ok-len_of_each.ensures.len)

pub returns-clause-refused : goal.returns-clause-refused
returns-clause-refused g c =
    IfErr-weaker _ _ _ (λ e h. writer_refused _ _ _ _ _ e h.0 h.1) c.put_each.ensures.refused
