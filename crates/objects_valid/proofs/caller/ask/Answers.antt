use Rattle.std.proofs.Common.{refl}
use Rattle.std.proofs.lemmas.Fn.{gave_at}
use Rattle.objects_valid.proofs.caller.ask.Goals as goal

pub returns-in-Ok-clause-answers : goal.returns-in-Ok-clause-answers
returns-in-Ok-clause-answers g c h = gave_at g.F.FnOnce c.in-Ok.ensures refl

pub returns-in-Err-clause-answers : goal.returns-in-Err-clause-answers
returns-in-Err-clause-answers g c h = (c.in-Err.cause, gave_at g.F.FnOnce c.in-Err.ensures refl, c.told.ensures.cause)

pub test-requires : goal.test-requires
test-requires g c = c.requires c.args.cert refl
