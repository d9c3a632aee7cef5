use Rattle.std.proofs.Common.{◌≡◌, ℕ, List, ◌++◌, map}
use Rattle.std.specs.Prelude.{codes}
use Rattle.std.specs.List.{flat_map}
use Rattle.std.specs.Fmt.{HasWritten, IsPlainFormatter}
use Rattle.resources_ip_block.specs.Block.{run_of_block}
use Rattle.resources_ip_block.specs.BlockText.{block_text, address_text}
use Rattle.resources_ip.specs.Blocks.{blocks_left}
use Rattle.resources_ip.proofs.listed.write_behind.Given as goal

abbrev pub invariant-loop-block : goal.invariant-loop-block
invariant-loop-block g l =
    (text : List ℕ) × (text ++ flat_map (λ r. codes ", " ++ block_text (address_text l.family) r) (map run_of_block (blocks_left l.block-iterator)) ≡ flat_map (λ r. codes ", " ++ block_text (address_text l.family) r) (map run_of_block (blocks_left l.initial.block-iterator))) × (IsPlainFormatter l.initial.f → HasWritten g.W.Write.write_str_gives l.initial.f text l.f)
