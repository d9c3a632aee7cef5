use Rattle.std.proofs.Common.{refl}
use Rattle.bcder_octets.specs.bcder_primitive.Plain.{plain}
use Rattle.bcder_octets.specs.bcder_primitive.Values.{AnyOctets}
use Rattle.bcder_octets.proofs.of_bcder_primitive.Primitives.{through, weaker}
use Rattle.bcder_octets.proofs.of_bcder_content.Memories.{wanted}
use Rattle.bcder_values.proofs.of_bcder_content.Wholes.{lacks_any, has_whole}
use Rattle.bcder_values.proofs.of_bcder_content.Wants.{no_want_through}
use Rattle.bcder_octets.proofs.reading.take_all.Goals as goal

pub returns-in_err-count-clause-reads : goal.returns-in_err-count-clause-reads
returns-in_err-count-clause-reads g c =
    through (λ octets. octets) AnyOctets (plain g.S.Source.rest c.args.prim.now) _ c.from_residual.result _ c.from_residual.ensures.0 c.from_residual.ensures.1
    (weaker _ (lacks_any AnyOctets (plain g.S.Source.rest c.args.prim.now)) c.in_err-count.ensures.refused)

pub returns-in_err-count-clause-memory : goal.returns-in_err-count-clause-memory
returns-in_err-count-clause-memory g c = no_want_through _ _ c.from_residual.result _ c.from_residual.ensures.0 c.from_residual.ensures.1 c.in_err-count.ensures.refused

pub returns-in-Err-clause-memory : goal.returns-in-Err-clause-memory
returns-in-Err-clause-memory g c =
    let had = c.in_ok-count.ensures in
    wanted c.in-Err.error (has_whole AnyOctets had.same had.sound had.all c.front.ensures.there c.front.ensures.value (record { same = refl }))
