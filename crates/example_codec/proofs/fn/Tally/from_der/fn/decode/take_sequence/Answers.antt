use Rattle.std.proofs.Common.{refl}
use Rattle.bcder.proofs.of_bcder_content.InMode.{begin, next, stop, done}
use Rattle.example_codec.proofs.fn.Tally.from_der.fn.decode.take_sequence.Goals as goal

pub returns-in_err-station : goal.returns-in_err-station
returns-in_err-station c = stop _ begin c.from_residual.ensures c.in_err-station.ensures.reads

pub returns-in_err-count : goal.returns-in_err-count
returns-in_err-count c = stop _ (next begin c.in_ok-station.ensures.reads) c.from_residual-in_err-count.ensures c.in_err-count.ensures.reads

pub returns : goal.returns
returns c = done (next (next begin c.in_ok-station.ensures.reads) c.in_ok-count.ensures.reads) refl
