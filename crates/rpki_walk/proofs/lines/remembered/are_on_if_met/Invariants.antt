use Rattle.std.proofs.Common.{ℕ, List, take}
use Rattle.rpki_rules.specs.Words.{Mem}
use Rattle.rpki_walk.proofs.lines.remembered.are_on_if_met.Given as goal

abbrev pub invariant-loop-key : goal.invariant-loop-key
invariant-loop-key l = (k : List ℕ) → Mem (take l.key-index l.keys) k → Mem l.met k → Mem l.other k
