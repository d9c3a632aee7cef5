use Rattle.std.proofs.Common.{All, IsTrue, take}
use Rattle.objects_rta_valid.specs.Nodes.{each_octets}
use Rattle.objects_rta_valid.specs.Tables.{holds}
use Rattle.objects_rta_valid.proofs.paths.keys.are_in.Given as goal

abbrev pub invariant-loop-key : goal.invariant-loop-key
invariant-loop-key l = All (λ key. IsTrue (holds l.set key)) (take l.key-index (each_octets l.keys))
