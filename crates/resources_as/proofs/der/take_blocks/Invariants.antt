use Rattle.std.proofs.Common.{length}
use Rattle.resources_as.specs.bcder_content.Grammar.{Many}
use Rattle.resources_as.specs.bcder_content.Here.{here}
use Rattle.resources_as.proofs.of_bcder_content.Forests.{Listing}
use Rattle.resources_asn.specs.BlockEncodings.{IsAsBlock}
use Rattle.resources_as.proofs.der.take_blocks.Given as goal

abbrev pub invariant-loop-blocks : goal.invariant-loop-blocks
invariant-loop-blocks g l = Listing (Many IsAsBlock) IsAsBlock (λ xs. xs) l.blocks (here g.S.Source.rest l.fn.cons) (here g.S.Source.rest l.cons)

abbrev pub decreases-loop-blocks : goal.decreases-loop-blocks
decreases-loop-blocks g l = length (g.S.Source.rest l.cons.octets.source.source)
