use Rattle.std.proofs.Common.{refl}
use Rattle.bcder_example.proofs.of_bcder_content.InMode.{begin, next, stop, done}
use Rattle.bcder_example.proofs.signed.take_body_fields.Goals as goal

pub returns-in_err-serial : goal.returns-in_err-serial
returns-in_err-serial g c = stop _ begin c.from_residual.ensures c.in_err-serial.ensures.reads

pub returns-in_err-note : goal.returns-in_err-note
returns-in_err-note g c = stop _ (next begin c.in_ok-serial.ensures.reads) c.from_residual-in_err-note.ensures c.in_err-note.ensures.reads

pub returns : goal.returns
returns g c = done (next (next begin c.in_ok-serial.ensures.reads) c.in_ok-note.ensures.reads) refl
