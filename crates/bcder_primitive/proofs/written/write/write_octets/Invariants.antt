use Rattle.bcder_primitive.proofs.written.write.write_octets.Given as goal
use Rattle.std.proofs.Common.{◌≡◌, ◌-◌, ◌^◌, List, ℕ, ◌++◌}
use Rattle.std.specs.Io.KnownBytes.{Appends}

abbrev pub invariant-loop-rest : goal.invariant-loop-rest
invariant-loop-rest g l = record {
  taken : List ℕ;
  whole : l.octets ≡ taken ++ l.rest;
  appended : Appends (g.W.Write.contents l.fn.target) (g.W.Write.contents l.target) taken;
}

abbrev pub decreases-loop-rest : goal.decreases-loop-rest
decreases-loop-rest g l = 2 ^ 64 - l.turns
