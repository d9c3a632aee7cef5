use Rattle.bcder.specs.bcder_content.Here.{here}
use Rattle.bcder.proofs.Texts.{text_taken_opt, text_wants}
use Rattle.bcder.proofs.string.string.RestrictedString.take_opt_from.Goals as goal

pub of_text-requires : goal.of_text-requires
of_text-requires g c =
    let t = rw c.in-Ok-Some.field-0-is at c.in-Ok-Some.ensures.taken in
    (text_taken_opt c.tag.ensures t (record { each = λ form tag v r w met. record { old = met.0.now; new = met.1.now; before = met.2; behind = met.3; form_is = met.4; reads = met.5.0.reads } })).is.meets

pub returns-in-Ok-Some-clause-reads : goal.returns-in-Ok-Some-clause-reads
returns-in-Ok-Some-clause-reads g c =
    let t = rw c.in-Ok-Some.field-0-is at c.in-Ok-Some.ensures.taken in
    rw c.of_text.ensures (text_taken_opt c.tag.ensures t (record { each = λ form tag v r w met. record { old = met.0.now; new = met.1.now; before = met.2; behind = met.3; form_is = met.4; reads = met.5.0.reads } }))

pub returns-in-Ok-None-clause-reads : goal.returns-in-Ok-None-clause-reads
returns-in-Ok-None-clause-reads g c =
    let t = rw c.in-Ok-None.field-0-is at c.in-Ok-None.ensures.taken in
    text_taken_opt c.tag.ensures t (record { each = λ form tag v r w met. record { old = met.0.now; new = met.1.now; before = met.2; behind = met.3; form_is = met.4; reads = met.5.0.reads } })

pub returns-in-Err-clause-reads : goal.returns-in-Err-clause-reads
returns-in-Err-clause-reads g c = text_taken_opt c.tag.ensures c.in-Err.ensures.taken (record { each = λ form tag v r w met. record { old = met.0.now; new = met.1.now; before = met.2; behind = met.3; form_is = met.4; reads = met.5.0.reads } })

pub returns-in-Err-clause-memory : goal.returns-in-Err-clause-memory
returns-in-Err-clause-memory g c =
    text_wants (here g.S.Source.rest c.args.cons.now) c.in-Err.error c.tag.ensures (record { each = λ form tag v r w met. record { content = met.0.now; shows = met.2.left_is; form_is = met.4; wants = met.5.1 } }) c.in-Err.ensures.memory
