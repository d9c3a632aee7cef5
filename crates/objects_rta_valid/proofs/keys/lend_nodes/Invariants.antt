use Rattle.std.proofs.Common.{◌≡◌, ◌++◌, length}
use Rattle.objects_rta_valid.proofs.keys.lend_nodes.Given as goal

abbrev pub invariant-loop-key : goal.invariant-loop-key
invariant-loop-key l = l.nodes.items ++ l.rest ≡ l.fn.keys

abbrev pub decreases-loop-key : goal.decreases-loop-key
decreases-loop-key l = length l.rest
