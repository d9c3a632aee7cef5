use Rattle.std.proofs.Common.{length}
use Rattle.certs_name.specs.bcder_content.Here.{here}
use Rattle.certs_name.proofs.of_bcder_content.Gathering.{Gathered}
use Rattle.certs_name.specs.AnyNames.{AnyNumber, IsAnyAttribute}
use Rattle.certs_name.proofs.skim.skip_attributes.Given as goal

abbrev pub invariant-attributes : goal.invariant-attributes
invariant-attributes g l = Gathered (λ m. IsAnyAttribute) AnyNumber (here g.S.Source.rest l.fn.cons) (here g.S.Source.rest l.cons) tt

abbrev pub decreases-attributes : goal.decreases-attributes
decreases-attributes g l = length (g.S.Source.rest l.cons.octets.source.source)
