use Rattle.std.proofs.Common.{◌≡◌}
use Rattle.std.specs.Prelude.{IfErr, OnOk}
use Rattle.resources_as.specs.bcder_primitive.Writing.{Wrote, WriteRefused}
use Rattle.resources_as.proofs.Writing.{of_runs}
use Rattle.resources_as.proofs.write.AsBlocksValues.write_encoded.Goals as goal

pub returns-clause-written : goal.returns-clause-written
returns-clause-written g c =
    let contents = g.W.Write.contents in
    of_runs c.args.mode (λ T P. OnOk c.write_encoded.result (Wrote P (contents c.args.target.now) (contents c.write_encoded.new.target))) c.as_blocks.result.now c.as_blocks.ensures c.write_encoded.ensures.written

pub returns-clause-refused : goal.returns-clause-refused
returns-clause-refused g c =
    let contents = g.W.Write.contents in
    of_runs c.args.mode (λ T P. IfErr c.write_encoded.result (WriteRefused T P (c.write_encoded.new.target ≡ c.args.target.now) (contents c.args.target.now) (contents c.write_encoded.new.target))) c.as_blocks.result.now c.as_blocks.ensures c.write_encoded.ensures.refused
