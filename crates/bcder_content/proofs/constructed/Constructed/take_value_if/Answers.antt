use Rattle.std.proofs.Common.{Bool, subst, Ok, Err}
use Rattle.bcder_content.specs.Either.{ByContentAlone, WithTag}
use Rattle.bcder_content.specs.Here.{here}
use Rattle.bcder_content.proofs.Windows.{tags_unequal, tags_same}
use Rattle.bcder_content.proofs.Eithers.{takes_none, takes_other, takes_refused, takes_unread, takes_value}
use Rattle.bcder_content.proofs.Taking.{none_named, tag_named_as, on_content}
use Rattle.bcder_content.proofs.Memories.{no_want, tagged_wanted}
use Rattle.bcder_content.proofs.constructed.Constructed.take_value_if.Goals as goal

pub returns-in-Err-clause-taken : goal.returns-in-Err-clause-taken
returns-in-Err-clause-taken g c = record { cases = takes_none (ByContentAlone g.S.Source.rest g.F.FnOnce c.args.op) (WithTag c.args.tag) (here g.S.Source.rest c.args.self.now) (here g.S.Source.rest c.args.self.now) c.in-Err.error c.in-Err.ensures.refused }

pub returns-then-ne-clause-taken : goal.returns-then-ne-clause-taken
returns-then-ne-clause-taken g c = record { cases = takes_other (ByContentAlone g.S.Source.rest g.F.FnOnce c.args.op) (WithTag c.args.tag) (here g.S.Source.rest c.args.self.now) (here g.S.Source.rest c.args.self.now) _ c.in-Ok.ensures.entered (tags_unequal c.ne.ensures c.if-ne.true) }

pub returns-in-Err-run_alone-clause-taken : goal.returns-in-Err-run_alone-clause-taken
returns-in-Err-run_alone-clause-taken g c = record { cases = takes_refused (ByContentAlone g.S.Source.rest g.F.FnOnce c.args.op) (WithTag c.args.tag) (here g.S.Source.rest c.args.self.now) (here g.S.Source.rest c.args.self.now) c.in-Err-run_alone.error c.in-Ok.ensures.entered (subst (λ (f : Bool). ByContentAlone g.S.Source.rest g.F.FnOnce c.args.op f c.in-Ok.found.0 (here g.S.Source.rest c.open.new.self) (Err c.in-Err-run_alone.error) (here g.S.Source.rest c.run_alone.new.self)) c.in-Ok.ensures.form (c.in-Err-run_alone.ensures c.in-Ok.found.0)) }

pub returns-in-Ok-close-clause-taken : goal.returns-in-Ok-close-clause-taken
returns-in-Ok-close-clause-taken g c = record { cases = takes_value (ByContentAlone g.S.Source.rest g.F.FnOnce c.args.op) (WithTag c.args.tag) (here g.S.Source.rest c.args.self.now) _ c.in-Ok-run_alone.value (tags_same c.ne.ensures c.if-ne.false) c.in-Ok.ensures.entered (subst (λ (f : Bool). ByContentAlone g.S.Source.rest g.F.FnOnce c.args.op f c.in-Ok.found.0 (here g.S.Source.rest c.open.new.self) (Ok c.in-Ok-run_alone.value) (here g.S.Source.rest c.run_alone.new.self)) c.in-Ok.ensures.form (c.in-Ok-run_alone.ensures c.in-Ok.found.0)) c.in-Ok-close.ensures.left c.in-Ok.ensures.around.0 c.in-Ok.ensures.around.1 }

pub returns-in-Err-close-clause-taken : goal.returns-in-Err-close-clause-taken
returns-in-Err-close-clause-taken g c = record { cases = takes_unread (ByContentAlone g.S.Source.rest g.F.FnOnce c.args.op) (WithTag c.args.tag) (here g.S.Source.rest c.args.self.now) (here g.S.Source.rest c.args.self.now) c.in-Ok-run_alone.value c.in-Err-close.error c.in-Ok.ensures.entered (subst (λ (f : Bool). ByContentAlone g.S.Source.rest g.F.FnOnce c.args.op f c.in-Ok.found.0 (here g.S.Source.rest c.open.new.self) (Ok c.in-Ok-run_alone.value) (here g.S.Source.rest c.run_alone.new.self)) c.in-Ok.ensures.form (c.in-Ok-run_alone.ensures c.in-Ok.found.0)) c.in-Err-close.ensures.refused }

pub returns-in-Err-clause-memory : goal.returns-in-Err-clause-memory
returns-in-Err-clause-memory g c = no_want _ _ c.in-Err.error c.in-Err.ensures.refused

pub returns-in-Err-run_alone-clause-memory : goal.returns-in-Err-run_alone-clause-memory
returns-in-Err-run_alone-clause-memory g c = tagged_wanted (ByContentAlone g.S.Source.rest g.F.FnOnce c.args.op) (here g.S.Source.rest c.args.self.now) c.in-Err-run_alone.error (tags_same c.ne.ensures c.if-ne.false) c.in-Ok.ensures.entered (subst (λ (f : Bool). ByContentAlone g.S.Source.rest g.F.FnOnce c.args.op f c.in-Ok.found.0 (here g.S.Source.rest c.open.new.self) (Err c.in-Err-run_alone.error) (here g.S.Source.rest c.run_alone.new.self)) c.in-Ok.ensures.form (c.in-Err-run_alone.ensures c.in-Ok.found.0))

pub returns-in-Err-close-clause-memory : goal.returns-in-Err-close-clause-memory
returns-in-Err-close-clause-memory g c = no_want _ _ c.in-Err-close.error c.in-Err-close.ensures.refused

pub returns-in-Err-clause-named : goal.returns-in-Err-clause-named
returns-in-Err-clause-named g c = none_named (here g.S.Source.rest c.args.self.now) c.args.tag c.in-Err.error c.in-Err.ensures.refused

pub returns-then-ne-clause-named : goal.returns-then-ne-clause-named
returns-then-ne-clause-named g c = on_content c.refuse.result (record { names = λ t a d. c.refuse.ensures.error })

pub returns-in-Err-run_alone-clause-named : goal.returns-in-Err-run_alone-clause-named
returns-in-Err-run_alone-clause-named g c = tag_named_as c.in-Err-run_alone.error (tags_same c.ne.ensures c.if-ne.false) c.in-Ok.ensures.entered

pub returns-in-Err-close-clause-named : goal.returns-in-Err-close-clause-named
returns-in-Err-close-clause-named g c = tag_named_as c.in-Err-close.error (tags_same c.ne.ensures c.if-ne.false) c.in-Ok.ensures.entered
