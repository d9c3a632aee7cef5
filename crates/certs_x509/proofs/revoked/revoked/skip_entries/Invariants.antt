use Rattle.std.proofs.Common.{length}
use Rattle.certs_x509.specs.bcder_content.Here.{here}
use Rattle.certs_x509.proofs.of_bcder_content.Gathering.{Gathered}
use Rattle.certs_extension.specs.CrlText.{IsRevoked}
use Rattle.certs_x509.specs.Entries.{whatever}
use Rattle.certs_x509.proofs.revoked.revoked.skip_entries.Given as goal

abbrev pub invariant-loop-entry : goal.invariant-loop-entry
invariant-loop-entry g l = Gathered (λ m. IsRevoked) whatever (here g.S.Source.rest l.fn.cons) (here g.S.Source.rest l.cons) tt

abbrev pub decreases-loop-entry : goal.decreases-loop-entry
decreases-loop-entry g l = length (g.S.Source.rest l.cons.octets.source.source)
