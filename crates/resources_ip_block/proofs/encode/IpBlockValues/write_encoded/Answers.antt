use Rattle.std.proofs.Common.{◌≡◌}
use Rattle.resources_ip_block.specs.Block.{run_of_block}
use Rattle.resources_ip_block.proofs.Writing.{wrote_of, write_refused}
use Rattle.resources_ip_block.proofs.encode.IpBlockValues.write_encoded.Goals as goal

pub returns-clause-written : goal.returns-clause-written
returns-clause-written g c =
    wrote_of c.args.mode (run_of_block c.args.self.now) c.encode-block.result c.write_encoded.result (g.W.Write.contents c.args.target.now) (g.W.Write.contents c.write_encoded.new.target) c.encode-block.ensures c.write_encoded.ensures.written

pub returns-clause-refused : goal.returns-clause-refused
returns-clause-refused g c =
    write_refused c.args.mode (run_of_block c.args.self.now) c.encode-block.result (c.write_encoded.new.target ≡ c.args.target.now) c.write_encoded.result (g.W.Write.contents c.args.target.now) (g.W.Write.contents c.write_encoded.new.target) c.encode-block.ensures c.write_encoded.ensures.refused
