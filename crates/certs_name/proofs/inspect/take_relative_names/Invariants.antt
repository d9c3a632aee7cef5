use Rattle.std.proofs.Common.{length}
use Rattle.certs_name.specs.bcder_content.Here.{here}
use Rattle.certs_name.proofs.of_bcder_content.Gathering.{Gathered}
use Rattle.certs_name.specs.Inspected.{IsSeenRelativeName, Together}
use Rattle.certs_name.proofs.inspect.take_relative_names.Given as goal

abbrev pub invariant-names : goal.invariant-names
invariant-names g l = Gathered (λ m. IsSeenRelativeName l.strict) Together (here g.S.Source.rest l.fn.cons) (here g.S.Source.rest l.cons) l.seen

abbrev pub decreases-names : goal.decreases-names
decreases-names g l = length (g.S.Source.rest l.cons.octets.source.source)
