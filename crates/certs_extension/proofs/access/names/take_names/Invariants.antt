use Rattle.std.proofs.Common.{length}
use Rattle.certs_extension.specs.bcder_content.Here.{here}
use Rattle.certs_extension.proofs.of_bcder_content.Gathering.{Gathered}
use Rattle.certs_extension.specs.Grammars.{IsName}
use Rattle.certs_extension.specs.Seen.{Seen}
use Rattle.certs_extension.proofs.access.names.take_names.Given as goal

abbrev pub invariant-loop-found : goal.invariant-loop-found
invariant-loop-found g l = Gathered IsName Seen (here g.S.Source.rest l.fn.cons) (here g.S.Source.rest l.cons) l.found

abbrev pub decreases-loop-found : goal.decreases-loop-found
decreases-loop-found g l = length (g.S.Source.rest l.cons.octets.source.source)
