use Rattle.bcder_values.specs.bcder_primitive.Writing.{HasLength}
use Rattle.bcder_values.proofs.of_bcder_primitive.Compose.{has_both}
use Rattle.bcder_values.proofs.tuples.Tuple2Values.encoded_len.Goals as goal
use Rattle.std.proofs.Common.{◌≡◌, ◌+◌, sym, subst, arith}
use Rattle.std.proofs.lemmas.Grind.{common_steps}

pub returns-in-Some-clause-len : goal.returns-in-Some-clause-len
returns-in-Some-clause-len g c =
    let sum : c.in-Some.sum ≡ c.in_ok-first.first + c.in_ok-second.second = grind (arith, common_steps) in
    subst (HasLength _) (sym sum) (has_both c.in_ok-first.ensures.len c.in_ok-second.ensures.len)
