use Rattle.std.proofs.Common.{refl}
use Rattle.rpki_bundle.proofs.Orders.{ascends_end, ascends_not}
use Rattle.rpki_bundle.proofs.entries.is_ascending.Goals as goal

pub returns-then-not-is_before : goal.returns-then-not-is_before
returns-then-not-is_before g c = (
  λ t. absurd cc,
  λ a. absurd (ascends_not g.E.Entry.sort_key c.args.entries.now c.loop-i.i c.index-entries-i.result c.index-entries-i-in-loop-i.result c.index-entries-i.is c.index-entries-i-in-loop-i.is c.loop-i.auto.i c.loop-i-test.true (λ before. let t = c.if-not-is_before.ensures.1 before in cc) a),
)

pub returns : goal.returns
returns g c = (λ t. ascends_end c.args.entries.now c.loop-i.i c.loop-i.invariant c.loop-i-test.false, λ a. refl)
