use Rattle.std.proofs.Common.{refl}
use Rattle.bcder_example.proofs.of_bcder_content.InMode.{begin, next, stop, done}
use Rattle.bcder_example.proofs.notice.Notice.take_fields.Goals as goal

pub returns-in_err-id : goal.returns-in_err-id
returns-in_err-id g c = stop _ begin c.from_residual.ensures c.in_err-id.ensures.reads

pub returns-in_err-serial : goal.returns-in_err-serial
returns-in_err-serial g c = stop _ (next begin c.in_ok-id.ensures.reads) c.from_residual-in_err-serial.ensures c.in_err-serial.ensures.reads

pub returns-in_err-flags : goal.returns-in_err-flags
returns-in_err-flags g c = stop _ (next (next begin c.in_ok-id.ensures.reads) c.in_ok-serial.ensures.reads) c.from_residual-in_err-flags.ensures c.in_err-flags.ensures.reads

pub returns-in_err-note : goal.returns-in_err-note
returns-in_err-note g c = stop _ (next (next (next begin c.in_ok-id.ensures.reads) c.in_ok-serial.ensures.reads) c.in_ok-flags.ensures.reads) c.from_residual-in_err-note.ensures c.in_err-note.ensures.reads

pub returns : goal.returns
returns g c = done (next (next (next (next begin c.in_ok-id.ensures.reads) c.in_ok-serial.ensures.reads) c.in_ok-flags.ensures.reads) c.in_ok-note.ensures.reads) refl
