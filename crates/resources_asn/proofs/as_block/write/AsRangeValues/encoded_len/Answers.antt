use Rattle.std.proofs.Common.{ap}
use Rattle.std.specs.Prelude.{IfErr}
use Rattle.resources_asn.specs.resources_chain.Sets.{Run}
use Rattle.resources_asn.specs.Numbers.{Number}
use Rattle.resources_asn.specs.bcder_primitive.Writing.{CannotWrite}
use Rattle.resources_asn.specs.Written.{AreAsRange, WritesAsRange}
use Rattle.resources_asn.proofs.Writing.{as_ends}
use Rattle.resources_asn.proofs.as_block.write.AsRangeValues.encoded_len.Goals as goal

pub returns-clause-refused : goal.returns-clause-refused
returns-clause-refused c =
    as_ends (λ (r : Run). IfErr c.range_len.result (CannotWrite (AreAsRange r) (WritesAsRange c.args.mode r))) (ap (λ (n : Number). n.value) c.min.ensures) (ap (λ (n : Number). n.value) c.max.ensures) c.range_len.ensures.refused
