use Rattle.bcder_values.proofs.of_bcder_primitive.Pieces.{refused_as, stopped, front_first, front_second}
use Rattle.bcder_values.proofs.Known.{known_first, known_second}
use Rattle.bcder_values.proofs.tuples.Tuple2Values.write_known.Goals as goal

pub write_known-requires : goal.write_known-requires
write_known-requires g c = known_first c.requires

pub write_known-requires-2 : goal.write_known-requires-2
write_known-requires-2 g c = known_second c.requires

pub returns-in_err-write_known-clause-refused : goal.returns-in_err-write_known-clause-refused
returns-in_err-write_known-clause-refused g c =
    let both = c.requires.is in
    let e = c.in_err-write_known.ensures.refused in
    stopped _ _ _ c.from_residual.ensures (e.0, front_first both.second both.is_second e.1)

pub returns-clause-refused : goal.returns-clause-refused
returns-clause-refused g c =
    refused_as _ _ (λ a. front_second c.in_ok-write_known.ensures.written a) c.write_known-2.ensures.refused
