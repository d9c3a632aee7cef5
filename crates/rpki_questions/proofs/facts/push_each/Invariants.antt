use Rattle.std.proofs.Common.{◌≡◌, ◌++◌, take}
use Rattle.std.specs.Prelude.{flat_map}
use Rattle.rpki_questions.proofs.facts.push_each.Given as goal

abbrev pub invariant-loop-fact : goal.invariant-loop-fact
invariant-loop-fact g l = l.text.items ≡ l.initial.text.items ++ flat_map (g.T.Fact.shown l.json) (take l.fact-index l.facts)
