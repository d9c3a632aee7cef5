use Rattle.std.proofs.Common.{Global, rules, IsTrue, refl}
use Rattle.bytes.specs.declared.shared.Bytes.{Bytes}
use Rattle.bcder.specs.declared.oid.oid.Oid.{Oid}
use Rattle.bcder.specs.bcder_primitive.Plain.{plain}
use Rattle.bcder.proofs.of_bcder_primitive.Primitives.{through, weaker}
use Rattle.bcder.specs.Identifiers.{IsOid}
use Rattle.bcder.proofs.of_bcder_content.Memories.{wanted}
use Rattle.bcder.proofs.of_bcder_content.Wholes.{lacks_any, has_whole}
use Rattle.bcder.proofs.of_bcder_content.Wants.{no_want_through}
use Rattle.bcder.proofs.oid.content.Oid+Bytes.from_primitive.Goals as goal

pub returns-in_err-count-clause-reads : goal.returns-in_err-count-clause-reads
returns-in_err-count-clause-reads g c =
    through (λ (oid : Oid (Bytes Global)). oid.0) IsOid (plain g.S.Source.rest c.args.prim.now) _ c.from_residual.result c.in_err-count.field-0.0 c.from_residual.ensures.0 c.from_residual.ensures.1
    (weaker c.in_err-count.field-0.0 (lacks_any IsOid (plain g.S.Source.rest c.args.prim.now)) c.in_err-count.ensures.refused)

pub returns-in_err-count-clause-memory : goal.returns-in_err-count-clause-memory
returns-in_err-count-clause-memory g c = no_want_through _ _ c.from_residual.result _ c.from_residual.ensures.0 c.from_residual.ensures.1 c.in_err-count.ensures.refused

pub returns-in-Err-clause-memory : goal.returns-in-Err-clause-memory
returns-in-Err-clause-memory g c =
    let t : IsTrue c.is_identifier-is_oid.result = search rules in
    let had = c.in_ok-count.ensures in
    wanted c.in-Err.error (has_whole IsOid had.same had.sound had.all c.front.ensures.there c.front.ensures.value (record { same = refl; is = c.is_identifier-is_oid.ensures.0 t }))
