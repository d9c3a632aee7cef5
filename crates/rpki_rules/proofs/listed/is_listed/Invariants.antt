use Rattle.std.proofs.Common.{length}
use Rattle.std.specs.Prelude.{◌↔◌}
use Rattle.rpki_rules.specs.Words.{Mem}
use Rattle.rpki_rules.proofs.listed.is_listed.Given as goal

abbrev pub invariant-loop-first : goal.invariant-loop-first
invariant-loop-first l = Mem l.rest l.key ↔ Mem l.fn.keys l.fn.key

abbrev pub decreases-loop-first : goal.decreases-loop-first
decreases-loop-first l = length l.rest
