use Rattle.std.proofs.Common.{◌≡◌, ◌++◌, map}
use Rattle.rpki_walk.specs.Cost.{count_of}
use Rattle.rpki_walk.proofs.Costs.{entry_of}
use Rattle.rpki_walk.proofs.cost.tally.Tally.counts.Given as goal

abbrev pub invariant-loop-authority : goal.invariant-loop-authority
invariant-loop-authority l = map count_of l.counts.items ++ map entry_of l.authority-iterator ≡ map entry_of l.self.counts.entries
