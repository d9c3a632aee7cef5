use Rattle.bcder.specs.bcder_content.Here.{here}
use Rattle.bcder.proofs.of_bcder_content.Choices.{stop_value}
use Rattle.bcder_octets.proofs.Wanting.{memory_through}
use Rattle.bcder.proofs.Texts.{text_taken, text_wants}
use Rattle.bcder.proofs.string.string.RestrictedString.take_from.Goals as goal

pub returns-in_err-octets-clause-reads : goal.returns-in_err-octets-clause-reads
returns-in_err-octets-clause-reads g c = stop_value (λ octets. octets) _ _ _ c.from_residual.ensures (λ l. l) (text_taken c.tag-tag.ensures c.in_err-octets.ensures.taken (record { each = λ form tag v r w met. record { old = met.0.now; new = met.1.now; before = met.2; behind = met.3; form_is = met.4; reads = met.5.0.reads } }))

pub of_text-requires : goal.of_text-requires
of_text-requires g c = (text_taken c.tag-tag.ensures c.in_ok-octets.ensures.taken (record { each = λ form tag v r w met. record { old = met.0.now; new = met.1.now; before = met.2; behind = met.3; form_is = met.4; reads = met.5.0.reads } })).is.meets

pub returns-clause-reads : goal.returns-clause-reads
returns-clause-reads g c = rw c.of_text.ensures (text_taken c.tag-tag.ensures c.in_ok-octets.ensures.taken (record { each = λ form tag v r w met. record { old = met.0.now; new = met.1.now; before = met.2; behind = met.3; form_is = met.4; reads = met.5.0.reads } }))

pub returns-in_err-octets-clause-memory : goal.returns-in_err-octets-clause-memory
returns-in_err-octets-clause-memory g c =
    memory_through _ c.from_residual.result _ c.from_residual.ensures.0 c.from_residual.ensures.1
    (text_wants (here g.S.Source.rest c.args.cons.now) _ c.tag-tag.ensures (record { each = λ form tag v r w met. record { content = met.0.now; shows = met.2.left_is; form_is = met.4; wants = met.5.1 } }) c.in_err-octets.ensures.memory)
