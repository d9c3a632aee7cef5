use Rattle.std.proofs.Common.{◌≡◌, ap}
use Rattle.std.specs.Prelude.{IfErr}
use Rattle.resources_asn.specs.resources_chain.Sets.{Run}
use Rattle.resources_asn.specs.Numbers.{Number}
use Rattle.resources_asn.specs.bcder_primitive.Writing.{WriteRefused}
use Rattle.resources_asn.specs.Written.{AreAsRange, WritesAsRange}
use Rattle.resources_asn.proofs.Writing.{as_ends}
use Rattle.resources_asn.proofs.as_block.write.AsRangeValues.write_encoded.Goals as goal

pub returns-clause-refused : goal.returns-clause-refused
returns-clause-refused g c =
    as_ends (λ (r : Run). IfErr c.write_range.result (WriteRefused (AreAsRange r) (WritesAsRange c.args.mode r) (c.write_range.new.target ≡ c.args.target.now) (g.W.Write.contents c.args.target.now) (g.W.Write.contents c.write_range.new.target))) (ap (λ (n : Number). n.value) c.min.ensures) (ap (λ (n : Number). n.value) c.max.ensures) c.write_range.ensures.refused
