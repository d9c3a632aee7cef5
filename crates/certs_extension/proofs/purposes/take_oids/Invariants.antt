use Rattle.std.proofs.Common.{length, map}
use Rattle.certs_extension.specs.bcder_tree.Tags.{oid_tag}
use Rattle.certs_extension.specs.bcder_content.Grammar.{OctetsOf}
use Rattle.certs_extension.specs.bcder_content.Here.{here}
use Rattle.certs_extension.specs.bcder.Identifiers.{IsOid}
use Rattle.certs_extension.proofs.of_bcder_content.InMode.{Items}
use Rattle.certs_extension.specs.Purposes.{AreOids, purpose_octets}
use Rattle.certs_extension.proofs.purposes.take_oids.Given as goal

abbrev pub invariant-loop-purposes : goal.invariant-loop-purposes
invariant-loop-purposes g l = Items AreOids (λ m. OctetsOf oid_tag IsOid) (λ xs. xs) (map purpose_octets l.purposes.items) (here g.S.Source.rest l.fn.cons) (here g.S.Source.rest l.cons)

abbrev pub decreases-loop-purposes : goal.decreases-loop-purposes
decreases-loop-purposes g l = length (g.S.Source.rest l.cons.octets.source.source)
