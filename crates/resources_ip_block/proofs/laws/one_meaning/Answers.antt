use Rattle.resources_ip_block.specs.Meanings.{block_one}
use Rattle.resources_ip_block.proofs.laws.one_meaning.Goals as goal

pub returns : goal.returns
returns c = record { block = λ m family. (block_one family).one }
