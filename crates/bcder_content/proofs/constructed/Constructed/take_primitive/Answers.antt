use Rattle.std.proofs.Common.{Bool, false, refl, sym, subst, Ok, Err}
use Rattle.bcder_content.specs.Either.{ByOctets, OfForm}
use Rattle.bcder_content.specs.Here.{here}
use Rattle.bcder_content.proofs.Windows.{not_false}
use Rattle.bcder_content.proofs.Eithers.{takes_none, takes_other, takes_refused, takes_unread, takes_value}
use Rattle.bcder_content.proofs.Memories.{no_want, any_wanted}
use Rattle.bcder_content.proofs.constructed.Constructed.take_primitive.Goals as goal

pub returns-in-Err-clause-taken : goal.returns-in-Err-clause-taken
returns-in-Err-clause-taken g c = record { cases = takes_none (ByOctets g.S.Source.rest g.F.FnOnce c.args.op) (OfForm false) (here g.S.Source.rest c.args.self.now) (here g.S.Source.rest c.args.self.now) c.in-Err.error c.in-Err.ensures.refused }

pub returns-then-constructed-clause-taken : goal.returns-then-constructed-clause-taken
returns-then-constructed-clause-taken g c = record { cases = takes_other (ByOctets g.S.Source.rest g.F.FnOnce c.args.op) (OfForm false) (here g.S.Source.rest c.args.self.now) (here g.S.Source.rest c.args.self.now) _ c.in-Ok.ensures.entered (not_false c.if-constructed.true) }

pub returns-in-Err-op-clause-taken : goal.returns-in-Err-op-clause-taken
returns-in-Err-op-clause-taken g c = record { cases = takes_refused (ByOctets g.S.Source.rest g.F.FnOnce c.args.op) (OfForm false) (here g.S.Source.rest c.args.self.now) (here g.S.Source.rest c.args.self.now) c.in-Err-op.error c.in-Ok.ensures.entered (subst (λ (f : Bool). ByOctets g.S.Source.rest g.F.FnOnce c.args.op f c.in-Ok.found.0 (here g.S.Source.rest c.open.new.self) (Err c.in-Err-op.error) (here g.S.Source.rest (record { octets = c.op.new.arg3; end = c.open.new.self.end; constructed = c.open.new.self.constructed }))) (sym c.if-constructed.false) (_, _, refl, refl, c.in-Err-op.ensures)) }

pub returns-in-Ok-close-clause-taken : goal.returns-in-Ok-close-clause-taken
returns-in-Ok-close-clause-taken g c = record { cases = takes_value (ByOctets g.S.Source.rest g.F.FnOnce c.args.op) (OfForm false) (here g.S.Source.rest c.args.self.now) _ c.in-Ok-op.value c.if-constructed.false c.in-Ok.ensures.entered (subst (λ (f : Bool). ByOctets g.S.Source.rest g.F.FnOnce c.args.op f c.in-Ok.found.0 (here g.S.Source.rest c.open.new.self) (Ok c.in-Ok-op.value) (here g.S.Source.rest (record { octets = c.op.new.arg3; end = c.open.new.self.end; constructed = c.open.new.self.constructed }))) (sym c.if-constructed.false) (_, _, refl, refl, c.in-Ok-op.ensures)) c.in-Ok-close.ensures.left c.in-Ok.ensures.around.0 c.in-Ok.ensures.around.1 }

pub returns-in-Err-close-clause-taken : goal.returns-in-Err-close-clause-taken
returns-in-Err-close-clause-taken g c = record { cases = takes_unread (ByOctets g.S.Source.rest g.F.FnOnce c.args.op) (OfForm false) (here g.S.Source.rest c.args.self.now) (here g.S.Source.rest c.args.self.now) c.in-Ok-op.value c.in-Err-close.error c.in-Ok.ensures.entered (subst (λ (f : Bool). ByOctets g.S.Source.rest g.F.FnOnce c.args.op f c.in-Ok.found.0 (here g.S.Source.rest c.open.new.self) (Ok c.in-Ok-op.value) (here g.S.Source.rest (record { octets = c.op.new.arg3; end = c.open.new.self.end; constructed = c.open.new.self.constructed }))) (sym c.if-constructed.false) (_, _, refl, refl, c.in-Ok-op.ensures)) c.in-Err-close.ensures.refused }

pub returns-in-Err-clause-memory : goal.returns-in-Err-clause-memory
returns-in-Err-clause-memory g c = no_want _ _ c.in-Err.error c.in-Err.ensures.refused

pub returns-in-Err-op-clause-memory : goal.returns-in-Err-op-clause-memory
returns-in-Err-op-clause-memory g c = any_wanted (ByOctets g.S.Source.rest g.F.FnOnce c.args.op) (here g.S.Source.rest c.args.self.now) c.in-Err-op.error c.in-Ok.ensures.entered (subst (λ (f : Bool). ByOctets g.S.Source.rest g.F.FnOnce c.args.op f c.in-Ok.found.0 (here g.S.Source.rest c.open.new.self) (Err c.in-Err-op.error) (here g.S.Source.rest (record { octets = c.op.new.arg3; end = c.open.new.self.end; constructed = c.open.new.self.constructed }))) (sym c.if-constructed.false) (_, _, refl, refl, c.in-Err-op.ensures))

pub returns-in-Err-close-clause-memory : goal.returns-in-Err-close-clause-memory
returns-in-Err-close-clause-memory g c = no_want _ _ c.in-Err-close.error c.in-Err-close.ensures.refused
