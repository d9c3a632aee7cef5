use Rattle.std.proofs.Common.{length}
use Rattle.certs_name.specs.bcder_content.Here.{here}
use Rattle.certs_name.proofs.of_bcder_content.Gathering.{Gathered}
use Rattle.certs_name.specs.Inspected.{IsSeenAttribute, Together}
use Rattle.certs_name.proofs.inspect.take_attributes.Given as goal

abbrev pub invariant-attributes : goal.invariant-attributes
invariant-attributes g l = Gathered (λ m. IsSeenAttribute l.strict) Together (here g.S.Source.rest l.fn.cons) (here g.S.Source.rest l.cons) l.seen

abbrev pub decreases-attributes : goal.decreases-attributes
decreases-attributes g l = length (g.S.Source.rest l.cons.octets.source.source)
