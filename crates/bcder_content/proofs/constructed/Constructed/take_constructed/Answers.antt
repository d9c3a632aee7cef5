use Rattle.std.proofs.Common.{Bool, true, refl, sym, subst, Ok, Err}
use Rattle.bcder_content.specs.Either.{ByValues, OfForm}
use Rattle.bcder_content.specs.Here.{here}
use Rattle.bcder_content.proofs.Windows.{not_true}
use Rattle.bcder_content.proofs.Eithers.{takes_none, takes_other, takes_refused, takes_unread, takes_value}
use Rattle.bcder_content.proofs.Memories.{no_want, any_wanted}
use Rattle.bcder_content.proofs.constructed.Constructed.take_constructed.Goals as goal

pub returns-in-Err-clause-taken : goal.returns-in-Err-clause-taken
returns-in-Err-clause-taken g c = record { cases = takes_none (ByValues g.S.Source.rest g.F.FnOnce c.args.op) (OfForm true) (here g.S.Source.rest c.args.self.now) (here g.S.Source.rest c.args.self.now) c.in-Err.error c.in-Err.ensures.refused }

pub returns-then-not-constructed-clause-taken : goal.returns-then-not-constructed-clause-taken
returns-then-not-constructed-clause-taken g c = record { cases = takes_other (ByValues g.S.Source.rest g.F.FnOnce c.args.op) (OfForm true) (here g.S.Source.rest c.args.self.now) (here g.S.Source.rest c.args.self.now) _ c.in-Ok.ensures.entered (not_true c.if-not-constructed.true) }

pub returns-in-Err-op-clause-taken : goal.returns-in-Err-op-clause-taken
returns-in-Err-op-clause-taken g c = record { cases = takes_refused (ByValues g.S.Source.rest g.F.FnOnce c.args.op) (OfForm true) (here g.S.Source.rest c.args.self.now) (here g.S.Source.rest c.args.self.now) c.in-Err-op.error c.in-Ok.ensures.entered (subst (λ (f : Bool). ByValues g.S.Source.rest g.F.FnOnce c.args.op f c.in-Ok.found.0 (here g.S.Source.rest c.open.new.self) (Err c.in-Err-op.error) (here g.S.Source.rest c.op.new.arg3)) (sym c.if-not-constructed.false) (_, _, refl, refl, c.in-Err-op.ensures)) }

pub returns-in-Ok-close-clause-taken : goal.returns-in-Ok-close-clause-taken
returns-in-Ok-close-clause-taken g c = record { cases = takes_value (ByValues g.S.Source.rest g.F.FnOnce c.args.op) (OfForm true) (here g.S.Source.rest c.args.self.now) _ c.in-Ok-op.value c.if-not-constructed.false c.in-Ok.ensures.entered (subst (λ (f : Bool). ByValues g.S.Source.rest g.F.FnOnce c.args.op f c.in-Ok.found.0 (here g.S.Source.rest c.open.new.self) (Ok c.in-Ok-op.value) (here g.S.Source.rest c.op.new.arg3)) (sym c.if-not-constructed.false) (_, _, refl, refl, c.in-Ok-op.ensures)) c.in-Ok-close.ensures.left c.in-Ok.ensures.around.0 c.in-Ok.ensures.around.1 }

pub returns-in-Err-close-clause-taken : goal.returns-in-Err-close-clause-taken
returns-in-Err-close-clause-taken g c = record { cases = takes_unread (ByValues g.S.Source.rest g.F.FnOnce c.args.op) (OfForm true) (here g.S.Source.rest c.args.self.now) (here g.S.Source.rest c.args.self.now) c.in-Ok-op.value c.in-Err-close.error c.in-Ok.ensures.entered (subst (λ (f : Bool). ByValues g.S.Source.rest g.F.FnOnce c.args.op f c.in-Ok.found.0 (here g.S.Source.rest c.open.new.self) (Ok c.in-Ok-op.value) (here g.S.Source.rest c.op.new.arg3)) (sym c.if-not-constructed.false) (_, _, refl, refl, c.in-Ok-op.ensures)) c.in-Err-close.ensures.refused }

pub returns-in-Err-clause-memory : goal.returns-in-Err-clause-memory
returns-in-Err-clause-memory g c = no_want _ _ c.in-Err.error c.in-Err.ensures.refused

pub returns-in-Err-op-clause-memory : goal.returns-in-Err-op-clause-memory
returns-in-Err-op-clause-memory g c = any_wanted (ByValues g.S.Source.rest g.F.FnOnce c.args.op) (here g.S.Source.rest c.args.self.now) c.in-Err-op.error c.in-Ok.ensures.entered (subst (λ (f : Bool). ByValues g.S.Source.rest g.F.FnOnce c.args.op f c.in-Ok.found.0 (here g.S.Source.rest c.open.new.self) (Err c.in-Err-op.error) (here g.S.Source.rest c.op.new.arg3)) (sym c.if-not-constructed.false) (_, _, refl, refl, c.in-Err-op.ensures))

pub returns-in-Err-close-clause-memory : goal.returns-in-Err-close-clause-memory
returns-in-Err-close-clause-memory g c = no_want _ _ c.in-Err-close.error c.in-Err-close.ensures.refused
