use Rattle.std.proofs.Common.{◌≡◌, ◌++◌, map}
use Rattle.rpki_walk.specs.resources_ip.Block.{run_of_block}
use Rattle.rpki_rules.specs.Judge.{runs_of}
use Rattle.rpki_steps.proofs.object.needs.blocks_of.Given as goal

abbrev pub invariant-loop-address : goal.invariant-loop-address
invariant-loop-address l = map run_of_block l.blocks.items ++ runs_of l.address-iterator ≡ runs_of l.addresses
