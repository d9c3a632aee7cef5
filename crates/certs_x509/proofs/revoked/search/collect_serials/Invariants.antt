use Rattle.std.proofs.Common.{length}
use Rattle.certs_x509.specs.bcder_content.Captures.{rest_of}
use Rattle.certs_x509.specs.bcder_content.Here.{here}
use Rattle.certs_x509.proofs.Serials.{Collected}
use Rattle.certs_x509.proofs.revoked.search.collect_serials.Given as goal

abbrev pub invariant-loop-serials : goal.invariant-loop-serials
invariant-loop-serials l = Collected l.serials.items (here rest_of l.fn.cons) (here rest_of l.cons)

abbrev pub decreases-loop-serials : goal.decreases-loop-serials
decreases-loop-serials l = length l.cons.octets.source.source.rest
