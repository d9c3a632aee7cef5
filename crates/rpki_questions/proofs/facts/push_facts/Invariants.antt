use Rattle.std.proofs.Common.{◌≡◌, ◌++◌, [], cond, take}
use Rattle.std.specs.Prelude.{flat_map}
use Rattle.rpki_questions.proofs.facts.push_facts.Given as goal

abbrev pub invariant-loop-fact : goal.invariant-loop-fact
invariant-loop-fact g l = l.text.items ≡ l.initial.text.items ++ flat_map (λ x. cond (g.T.Fact.about l.name l.key x) (g.T.Fact.shown l.json x) []) (take l.fact-index l.facts)
