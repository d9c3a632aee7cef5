use Rattle.std.proofs.Common.{◌↔◌, length, map}
use Rattle.certs_extension.specs.certs_basics.Lists.{Mem}
use Rattle.certs_extension.specs.Purposes.{purpose_octets}
use Rattle.certs_extension.proofs.purposes.has.Given as goal

abbrev pub invariant-loop-first : goal.invariant-loop-first
invariant-loop-first l = Mem (map purpose_octets l.rest) l.fn.wanted ↔ Mem (map purpose_octets l.fn.purposes) l.fn.wanted

abbrev pub decreases-loop-first : goal.decreases-loop-first
decreases-loop-first l = length l.rest
