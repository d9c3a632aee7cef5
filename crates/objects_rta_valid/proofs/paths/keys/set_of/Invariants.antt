use Rattle.std.proofs.Common.{take}
use Rattle.objects_rta_valid.specs.Nodes.{each_octets}
use Rattle.objects_rta_valid.specs.Tables.{IsSetOf}
use Rattle.objects_rta_valid.proofs.paths.keys.set_of.Given as goal

abbrev pub invariant-loop-key : goal.invariant-loop-key
invariant-loop-key l = IsSetOf (take l.key-index (each_octets l.keys)) l.set
