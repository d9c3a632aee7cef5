use Rattle.bcder_octets.specs.bcder_primitive.Plain.{plain}
use Rattle.bcder_octets.proofs.BitReadings.{no_whole_through}
use Rattle.bcder_octets.proofs.bits.reading.request_bits.Goals as goal

pub returns-in_err-count-clause-refused : goal.returns-in_err-count-clause-refused
returns-in_err-count-clause-refused g c =
    no_whole_through c.args.prim.now.mode (plain g.S.Source.rest c.args.prim.now) c.from_residual.result _ c.from_residual.ensures.0 c.from_residual.ensures.1 c.in_err-count.ensures.refused
