use Rattle.objects_written.specs.Attributes.{to_sign}
use Rattle.objects_written.proofs.Again.{again_told, written_told}
use Rattle.objects_written.proofs.Refusing.{digest_refused, known, set_stop, stopped, time_refused, type_refused}
use Rattle.objects_written.proofs.frame.attributes.signed_attributes.Goals as goal

pub returns-in_err-first-clause-refused : goal.returns-in_err-first-clause-refused
returns-in_err-first-clause-refused c =
    stopped _ _ _ c.from_residual.ensures (type_refused (to_sign c.args.content_type.now c.args.digest.now c.args.time) _ c.in_err-first.ensures.refused)

pub returns-in_err-second-clause-refused : goal.returns-in_err-second-clause-refused
returns-in_err-second-clause-refused c =
    stopped _ _ _ c.from_residual-in_err-second.ensures (digest_refused (to_sign c.args.content_type.now c.args.digest.now c.args.time) _ c.in_err-second.ensures.refused)

pub returns-in_err-third-clause-refused : goal.returns-in_err-third-clause-refused
returns-in_err-third-clause-refused c =
    stopped _ _ _ c.from_residual-in_err-third.ensures (time_refused (to_sign c.args.content_type.now c.args.digest.now c.args.time) _ c.in_err-third.ensures.refused)

pub returns-clause-written : goal.returns-clause-written
returns-clause-written c =
    written_told (to_sign c.args.content_type.now c.args.digest.now c.args.time) _ _ _ c.in_ok-first.ensures.text c.in_ok-second.ensures.text c.in_ok-third.ensures.text c.set_text.result c.set_text.ensures.text

pub returns-clause-again : goal.returns-clause-again
returns-clause-again c = again_told (to_sign c.args.content_type.now c.args.digest.now c.args.time) c.set_text.result (returns-clause-written c)

pub returns-clause-refused : goal.returns-clause-refused
returns-clause-refused c =
    set_stop (to_sign c.args.content_type.now c.args.digest.now c.args.time) _ _ _ c.in_ok-first.ensures.text c.in_ok-second.ensures.text c.in_ok-third.ensures.text c.set_text.result c.set_text.ensures.refused

pub returns-in_err-first-clause-memory : goal.returns-in_err-first-clause-memory
returns-in_err-first-clause-memory c = stopped _ _ _ c.from_residual.ensures c.in_err-first.ensures.memory

pub returns-in_err-second-clause-memory : goal.returns-in_err-second-clause-memory
returns-in_err-second-clause-memory c = known _ c.from_residual-in_err-second.result (λ e m. (c.in_ok-first.first.octets, c.in_ok-first.ensures.text))

pub returns-in_err-third-clause-memory : goal.returns-in_err-third-clause-memory
returns-in_err-third-clause-memory c = known _ c.from_residual-in_err-third.result (λ e m. (c.in_ok-first.first.octets, c.in_ok-first.ensures.text))

pub returns-clause-memory : goal.returns-clause-memory
returns-clause-memory c = known _ c.set_text.result (λ e m. (c.in_ok-first.first.octets, c.in_ok-first.ensures.text))
