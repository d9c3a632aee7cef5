use Rattle.resources_ip_block.specs.Block.{run_of_block}
use Rattle.resources_ip_block.proofs.Writing.{len_of, len_refused}
use Rattle.resources_ip_block.proofs.encode.IpBlockValues.encoded_len.Goals as goal

pub returns-clause-len : goal.returns-clause-len
returns-clause-len c = len_of c.args.mode (run_of_block c.args.self.now) c.encode-block.result c.encoded_len.result c.encode-block.ensures c.encoded_len.ensures.len

pub returns-clause-refused : goal.returns-clause-refused
returns-clause-refused c = len_refused c.args.mode (run_of_block c.args.self.now) c.encode-block.result c.encoded_len.result c.encode-block.ensures c.encoded_len.ensures.refused
