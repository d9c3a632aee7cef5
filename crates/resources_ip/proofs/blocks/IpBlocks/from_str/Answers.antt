use Rattle.resources_ip_block.proofs.ReadLemmas.{shown_as}
use Rattle.resources_ip.proofs.Texts.{in_family}
use Rattle.resources_ip.proofs.blocks.IpBlocks.from_str.Goals as goal

pub returns-clause-reads : goal.returns-clause-reads
returns-clause-reads c = λ family shows.
    in_family c.of_text-family.result family c.args.text.now c.read_list.result (shown_as c.of_text-family.result c.args.text.now c.of_text-family.ensures) shows c.read_list.ensures.reads
