use Rattle.std.proofs.Common.{ap, subst, ◌∙◌}
use Rattle.bcder_content.specs.bcder_source.Views.{View}
use Rattle.bcder_content.specs.Here.{here}
use Rattle.bcder_content.specs.Captures.{RefusesIn, ReadsSome, RefusedAt, refused_before, octets_want}
use Rattle.bcder_content.proofs.Capturing.{over, captures_refused, captured, wants_rebased, refused_place}
use Rattle.bcder_content.proofs.Taking.{on_content}
use Rattle.bcder_content.specs.bcder_source.Errors.{OnContent}
use Rattle.bcder_content.proofs.constructed.Constructed.capture.Goals as goal

pub returns-in-Err-count_read-clause-captures : goal.returns-in-Err-count_read-clause-captures
returns-in-Err-count_read-clause-captures g c =
    let v = here g.S.Source.rest c.args.self.now in
    let same = c.in-Ok.ensures.same in
    record {
      cases = captures_refused c.pos-start.result c.in-Err-count_read.error c.rebased.result
          (subst (λ (w : View). RefusesIn g.F.FnOnce c.args.op (over v w) c.in-Err-count_read.error) same c.in-Err-count_read.ensures.refused)
          c.rebased.ensures (ap (over v) same);
    }

pub returns-clause-captures : goal.returns-clause-captures
returns-clause-captures g c = record { cases = captured c.in-Ok-front.bytes c.in-Ok.ensures.same c.if-self.false c.in-Ok-count_read.ensures.read c.in-Ok-front.ensures.octets c.advance.ensures.there c.advance.ensures.moved c.new.ensures }

pub returns-in-Err-count_read-clause-memory : goal.returns-in-Err-count_read-clause-memory
returns-in-Err-count_read-clause-memory g c =
    let v = here g.S.Source.rest c.args.self.now in
    wants_rebased c.pos-start.result c.in-Err-count_read.error c.rebased.result
    (subst (λ (w : View). RefusesIn g.F.FnOnce c.args.op (over v w) c.in-Err-count_read.error) c.in-Ok.ensures.same c.in-Err-count_read.ensures.refused)
    c.rebased.ensures

pub returns-in-Err-front-clause-memory : goal.returns-in-Err-front-clause-memory
returns-in-Err-front-clause-memory g c =
    let v = here g.S.Source.rest c.args.self.now in
    octets_want c.in-Ok-count_read.count c.in-Err-front.ensures.some
    (subst (λ (w : View). ReadsSome g.F.FnOnce c.args.op (over v w) c.in-Ok-count_read.count) c.in-Ok.ensures.same c.in-Ok-count_read.ensures.read)

pub returns-then-self-clause-place : goal.returns-then-self-clause-place
returns-then-self-clause-place g c = on_content c.content_err.result (refused_before c.if-self.true)

pub returns-in-Err-count_read-clause-place : goal.returns-in-Err-count_read-clause-place
returns-in-Err-count_read-clause-place g c =
    let v = here g.S.Source.rest c.args.self.now in
    subst (λ s. OnContent c.rebased.result (RefusedAt g.F.FnOnce c.args.op v s c.rebased.result)) (c.pos-start.ensures ∙ c.in-Ok.ensures.position)
    (refused_place c.pos-start.result c.in-Err-count_read.error c.rebased.result
    (subst (λ (w : View). RefusesIn g.F.FnOnce c.args.op (over v w) c.in-Err-count_read.error) c.in-Ok.ensures.same c.in-Err-count_read.ensures.refused)
    c.rebased.ensures)
