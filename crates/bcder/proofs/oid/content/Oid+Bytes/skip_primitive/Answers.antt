use Rattle.bcder.specs.bcder_primitive.Plain.{plain}
use Rattle.bcder.proofs.of_bcder_primitive.Primitives.{through, weaker}
use Rattle.bcder.specs.Identifiers.{IsAnyOid}
use Rattle.bcder.proofs.of_bcder_content.Wholes.{lacks_any}
use Rattle.bcder.proofs.oid.content.Oid+Bytes.skip_primitive.Goals as goal

pub returns-in_err-count-clause-reads : goal.returns-in_err-count-clause-reads
returns-in_err-count-clause-reads g c =
    through (λ (x : Unit {0}). x) IsAnyOid (plain g.S.Source.rest c.args.prim.now) _ c.from_residual.result c.in_err-count.field-0.0 c.from_residual.ensures.0 c.from_residual.ensures.1
    (weaker c.in_err-count.field-0.0 (lacks_any IsAnyOid (plain g.S.Source.rest c.args.prim.now)) c.in_err-count.ensures.refused)
