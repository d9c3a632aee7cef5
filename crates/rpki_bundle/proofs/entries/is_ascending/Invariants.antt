use Rattle.rpki_bundle.proofs.Orders.{AscendsBelow}
use Rattle.rpki_bundle.proofs.entries.is_ascending.Given as goal

abbrev pub invariant-loop-i : goal.invariant-loop-i
invariant-loop-i g l = AscendsBelow g.E.Entry.sort_key l.entries l.i
