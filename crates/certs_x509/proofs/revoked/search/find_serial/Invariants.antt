use Rattle.std.proofs.Common.{length}
use Rattle.certs_x509.specs.bcder_content.Captures.{rest_of}
use Rattle.certs_x509.specs.bcder_content.Here.{here}
use Rattle.certs_x509.proofs.Searches.{Passed}
use Rattle.certs_x509.proofs.revoked.search.find_serial.Given as goal

abbrev pub invariant-loop-entry : goal.invariant-loop-entry
invariant-loop-entry l = Passed l.fn.serial (here rest_of l.fn.cons) (here rest_of l.cons)

abbrev pub decreases-loop-entry : goal.decreases-loop-entry
decreases-loop-entry l = length l.cons.octets.source.source.rest
