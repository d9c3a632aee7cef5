use Rattle.std.proofs.Common.{ℕ, length}
use Rattle.std.specs.Prelude.{pos}
use Rattle.certs_name.specs.bcder_tree.Integers.{IsPositive}
use Rattle.certs_name.specs.bcder_primitive.Values.{IsTwosComplement}
use Rattle.certs_name.proofs.serial_der.shortest.Given as goal

abbrev pub invariant-loop-rest : goal.invariant-loop-rest
invariant-loop-rest l = record {
  positive : IsPositive l.rest;
  same : (n : ℕ) → IsTwosComplement l.octets (pos n) → IsTwosComplement l.rest (pos n);
}

abbrev pub decreases-loop-rest : goal.decreases-loop-rest
decreases-loop-rest l = length l.rest
