use Rattle.resources_ip_prefix.specs.bcder_primitive.Plain.{plain}
use Rattle.resources_ip_prefix.proofs.of_bcder_content.Taking.{on_content}
use Rattle.resources_ip_prefix.proofs.of_bcder_primitive.Primitives.{through, weaker}
use Rattle.resources_ip_prefix.proofs.Stated.{lacks_any, lacks_octets}
use Rattle.resources_ip_prefix.specs.Encodings.{AreAddressOctets, prefix_bits}
use Rattle.resources_ip_prefix.proofs.der.take_prefix.Goals as goal

pub returns-in_err-count-clause-reads : goal.returns-in_err-count-clause-reads
returns-in_err-count-clause-reads g c =
    through prefix_bits (AreAddressOctets c.args.family c.args.prim.now.mode) (plain g.S.Source.rest c.args.prim.now) _ c.from_residual.result c.in_err-count.field-0.0 c.from_residual.ensures.0 c.from_residual.ensures.1
    (weaker c.in_err-count.field-0.0 lacks_any c.in_err-count.ensures.refused)

pub returns-in-None-clause-reads : goal.returns-in-None-clause-reads
returns-in-None-clause-reads g c =
    let had = c.in_ok-count.ensures in
    on_content c.refuse.result (lacks_octets had.same had.all c.front.ensures.value c.in-None.ensures.none)
