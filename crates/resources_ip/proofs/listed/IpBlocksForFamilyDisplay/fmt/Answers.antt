use Rattle.std.proofs.Common.{List, map, ap, sym, ◌∙◌, rules}
use Rattle.std.specs.Fmt.{HasWritten}
use Rattle.std.proofs.Output.{has_written_append, has_written_of_eq}
use Rattle.resources_ip_block.specs.declared.block.IpBlock.{IpBlock}
use Rattle.resources_ip_block.specs.Block.{run_of_block}
use Rattle.resources_ip_block.specs.BlockText.{block_text, address_text}
use Rattle.resources_ip.specs.Blocks.{blocks_left}
use Rattle.resources_ip.specs.Shown.{shown_family, shown_set}
use Rattle.resources_ip.proofs.of_resources_chain.ListTexts.{pieces_printed}
use Rattle.resources_ip.proofs.listed.IpBlocksForFamilyDisplay.fmt.Goals as goal

pub returns-clause-writes : goal.returns-clause-writes
returns-clause-writes g c = λ plain ok.
    let f = block_text (address_text (shown_family c.args.self.now)) in
    let first : HasWritten {W = g.row.W.Denot} g.W.Write.write_str_gives c.args.f.now (f (run_of_block c.in-Some.first)) c.write_block.new.f = search rules in
    let whole = sym c.iter-blocks.ensures.blocks ∙ ap (λ (z : List IpBlock). map run_of_block z) c.in-Some.ensures.steps in
    let same = pieces_printed f (shown_set c.args.self.now) (map run_of_block (blocks_left c.next.new.self)) (run_of_block c.in-Some.first) whole in
    has_written_of_eq _ _ _ _ _ same (has_written_append _ _ _ _ _ _ first (c.write_behind.ensures first.plain ok))
