use Rattle.std.proofs.Common.{take}
use Rattle.objects_rta_valid.specs.Runs.{AreSet}
use Rattle.objects_rta_valid.proofs.paths.lengths.measure.Given as goal

abbrev pub invariant-loop-k : goal.invariant-loop-k
invariant-loop-k l = AreSet l.fn.lengths l.lengths (take l.k l.fresh.places.items) l.fresh.before l.fresh.behind
