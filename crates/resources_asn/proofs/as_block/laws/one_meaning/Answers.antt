use Rattle.resources_asn.specs.Meanings.{block_one}
use Rattle.resources_asn.proofs.as_block.laws.one_meaning.Goals as goal

pub returns : goal.returns
returns c = record { block = block_one.one }
