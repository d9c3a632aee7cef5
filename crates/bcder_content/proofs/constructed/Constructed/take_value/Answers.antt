use Rattle.std.proofs.Common.{Bool, subst, Ok, Err}
use Rattle.bcder_content.specs.Either.{ByContent, AnyKind}
use Rattle.bcder_content.specs.Here.{here}
use Rattle.bcder_content.proofs.Eithers.{takes_none, takes_refused, takes_unread, takes_value}
use Rattle.bcder_content.proofs.Memories.{no_want, any_wanted}
use Rattle.bcder_content.proofs.constructed.Constructed.take_value.Goals as goal

pub returns-in-Err-clause-taken : goal.returns-in-Err-clause-taken
returns-in-Err-clause-taken g c = record { cases = takes_none (ByContent g.S.Source.rest g.F.FnOnce c.args.op) AnyKind (here g.S.Source.rest c.args.self.now) (here g.S.Source.rest c.args.self.now) c.in-Err.error c.in-Err.ensures.refused }

pub returns-in-Err-run-clause-taken : goal.returns-in-Err-run-clause-taken
returns-in-Err-run-clause-taken g c = record { cases = takes_refused (ByContent g.S.Source.rest g.F.FnOnce c.args.op) AnyKind (here g.S.Source.rest c.args.self.now) (here g.S.Source.rest c.args.self.now) c.in-Err-run.error c.in-Ok.ensures.entered (subst (λ (f : Bool). ByContent g.S.Source.rest g.F.FnOnce c.args.op f c.in-Ok.found.0 (here g.S.Source.rest c.open.new.self) (Err c.in-Err-run.error) (here g.S.Source.rest c.run.new.self)) c.in-Ok.ensures.form c.in-Err-run.ensures) }

pub returns-in-Ok-close-clause-taken : goal.returns-in-Ok-close-clause-taken
returns-in-Ok-close-clause-taken g c = record { cases = takes_value (ByContent g.S.Source.rest g.F.FnOnce c.args.op) AnyKind (here g.S.Source.rest c.args.self.now) _ c.in-Ok-run.value tt c.in-Ok.ensures.entered (subst (λ (f : Bool). ByContent g.S.Source.rest g.F.FnOnce c.args.op f c.in-Ok.found.0 (here g.S.Source.rest c.open.new.self) (Ok c.in-Ok-run.value) (here g.S.Source.rest c.run.new.self)) c.in-Ok.ensures.form c.in-Ok-run.ensures) c.in-Ok-close.ensures.left c.in-Ok.ensures.around.0 c.in-Ok.ensures.around.1 }

pub returns-in-Err-close-clause-taken : goal.returns-in-Err-close-clause-taken
returns-in-Err-close-clause-taken g c = record { cases = takes_unread (ByContent g.S.Source.rest g.F.FnOnce c.args.op) AnyKind (here g.S.Source.rest c.args.self.now) (here g.S.Source.rest c.args.self.now) c.in-Ok-run.value c.in-Err-close.error c.in-Ok.ensures.entered (subst (λ (f : Bool). ByContent g.S.Source.rest g.F.FnOnce c.args.op f c.in-Ok.found.0 (here g.S.Source.rest c.open.new.self) (Ok c.in-Ok-run.value) (here g.S.Source.rest c.run.new.self)) c.in-Ok.ensures.form c.in-Ok-run.ensures) c.in-Err-close.ensures.refused }

pub returns-in-Err-clause-memory : goal.returns-in-Err-clause-memory
returns-in-Err-clause-memory g c = no_want _ _ c.in-Err.error c.in-Err.ensures.refused

pub returns-in-Err-run-clause-memory : goal.returns-in-Err-run-clause-memory
returns-in-Err-run-clause-memory g c = any_wanted (ByContent g.S.Source.rest g.F.FnOnce c.args.op) (here g.S.Source.rest c.args.self.now) c.in-Err-run.error c.in-Ok.ensures.entered (subst (λ (f : Bool). ByContent g.S.Source.rest g.F.FnOnce c.args.op f c.in-Ok.found.0 (here g.S.Source.rest c.open.new.self) (Err c.in-Err-run.error) (here g.S.Source.rest c.run.new.self)) c.in-Ok.ensures.form c.in-Err-run.ensures)

pub returns-in-Err-close-clause-memory : goal.returns-in-Err-close-clause-memory
returns-in-Err-close-clause-memory g c = no_want _ _ c.in-Err-close.error c.in-Err-close.ensures.refused
