use Rattle.std.proofs.Common.{refl, arith}
use Rattle.std.proofs.lemmas.List.{length-map}
use Rattle.rpki_standing.proofs.Rows.{now, rises_begin, rises_end, rises_next, rises_not}
use Rattle.rpki_standing.proofs.points.names.ascend.Goals as goal

pub loop-i-init : goal.loop-i-init
loop-i-init c = rises_begin _

pub returns-then-not-is_before : goal.returns-then-not-is_before
returns-then-not-is_before c = (
  λ t. absurd cc,
  λ a. absurd (rises_not c.args.names.now c.loop-i.i _ c.loop-i.auto.i c.loop-i-test.true (λ less. let t = c.is_before.ensures.1 less in cc) a),
)

pub loop-i-preserved : goal.loop-i-preserved
loop-i-preserved c = rises_next c.args.names.now c.loop-i.i _ c.loop-i.auto.i c.loop-i-test.true (c.is_before.ensures.0 c.if-not-is_before.false) c.loop-i.invariant

pub returns : goal.returns
returns c = (λ t. rises_end _ c.loop-i.i c.loop-i.invariant (omega (arith, length-map c.args.names.now now)), λ a. refl)
