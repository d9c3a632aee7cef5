use Rattle.std.proofs.Common.{List, ◌++◌, map, ap, rules}
use Rattle.std.specs.Prelude.{codes}
use Rattle.std.specs.Fmt.{HasWritten}
use Rattle.std.proofs.Output.{has_written_append}
use Rattle.resources_ip_block.specs.declared.block.IpBlock.{IpBlock}
use Rattle.resources_ip_block.specs.Block.{run_of_block}
use Rattle.resources_ip_block.specs.BlockText.{block_text, address_text}
use Rattle.resources_ip.specs.Blocks.{blocks_left}
use Rattle.resources_ip.proofs.of_resources_chain.ListTexts.{piece_printed}
use Rattle.resources_ip.proofs.listed.write_behind.Goals as goal

pub loop-block-preserved : goal.loop-block-preserved
loop-block-preserved g c =
    let before = c.loop-block.invariant in
    let f = block_text (address_text c.args.family) in
    let r = run_of_block c.in-Some.block in (
      before.0 ++ (codes ", " ++ f r),
      piece_printed f before.0 _ (map run_of_block (blocks_left c.loop-block.block-iterator)) (map run_of_block (blocks_left c.next.new.self)) r before.1 (ap (λ (z : List IpBlock). map run_of_block z) c.in-Some.ensures.steps),
      λ plain.
          let comma : HasWritten {W = g.row.W.Denot} g.W.Write.write_str_gives c.loop-block.f (codes ", ") c.write_str.new.self = search rules in
          let piece : HasWritten {W = g.row.W.Denot} g.W.Write.write_str_gives c.write_str.new.self (f r) c.write_block.new.f = search rules in
          has_written_append _ _ _ _ _ _ (before.2 plain) (has_written_append _ _ _ _ _ _ comma piece),
    )
