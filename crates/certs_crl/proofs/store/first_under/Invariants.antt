use Rattle.std.proofs.Common.{length}
use Rattle.certs_crl.proofs.Stored.{Passed}
use Rattle.certs_crl.proofs.store.first_under.Given as goal

abbrev pub invariant-loop-pair : goal.invariant-loop-pair
invariant-loop-pair l = Passed l.fn.crls l.rest l.fn.uri

abbrev pub decreases-loop-pair : goal.decreases-loop-pair
decreases-loop-pair l = length l.rest
