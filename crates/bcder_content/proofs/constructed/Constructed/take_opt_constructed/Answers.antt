use Rattle.std.proofs.Common.{◌↔◌, Bool, IsTrue, true, subst}
use Rattle.bcder_content.specs.Contents.{Ended}
use Rattle.bcder_content.specs.Either.{ByValues, OfForm}
use Rattle.bcder_content.specs.Here.{here}
use Rattle.bcder_content.proofs.Eithers.{takes_next_failed, takes_next_refused}
use Rattle.bcder_content.proofs.constructed.Constructed.take_opt_constructed.Goals as goal

pub returns-in-Err-clause-taken : goal.returns-in-Err-clause-taken
returns-in-Err-clause-taken g c = record { cases = takes_next_failed (ByValues g.S.Source.rest g.F.FnOnce c.args.op) (OfForm true) (here g.S.Source.rest c.args.self.now) _ c.in-Err.error c.in-Err.ensures.refused }

pub returns-in-Err-take_constructed-clause-taken : goal.returns-in-Err-take_constructed-clause-taken
returns-in-Err-take_constructed-clause-taken g c = record { cases = takes_next_refused (ByValues g.S.Source.rest g.F.FnOnce c.args.op) (OfForm true) (here g.S.Source.rest c.args.self.now) _ c.in-Err-take_constructed.error c.in-Ok-false.ensures.same (subst (λ (b : Bool). IsTrue b ↔ Ended (here g.S.Source.rest c.args.self.now)) c.in-Ok-false.field-0-test c.in-Ok-false.ensures.told) c.in-Err-take_constructed.ensures.taken }
