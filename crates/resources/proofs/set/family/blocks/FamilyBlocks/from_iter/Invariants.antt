use Rattle.std.proofs.Common.{◌≡◌}
use Rattle.std.specs.Prelude.{map}
use Rattle.resources.specs.resources_ip_block.Block.{run_of_block}
use Rattle.resources.specs.Families.{FitsBlocks}
use Rattle.resources.proofs.set.family.blocks.FamilyBlocks.from_iter.Given as goal

abbrev pub invariant-loop-block : goal.invariant-loop-block
invariant-loop-block g l = (l.listed ≡ map run_of_block l.yielded) × FitsBlocks g.F.Family.family l.listed
