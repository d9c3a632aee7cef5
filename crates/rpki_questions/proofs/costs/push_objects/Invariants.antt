use Rattle.std.proofs.Common.{◌≡◌, ◌++◌, ◌∷◌, take}
use Rattle.std.specs.Prelude.{flat_map}
use Rattle.rpki_validator.specs.rpki_walk.Cost.{count_of}
use Rattle.rpki_questions.specs.Costed.{count_object}
use Rattle.rpki_questions.proofs.costs.push_objects.Given as goal

abbrev pub invariant-loop-count : goal.invariant-loop-count
invariant-loop-count l = l.text.items ≡ l.initial.text.items ++ flat_map (λ c. 44 ∷ count_object (count_of c)) (take l.count-index l.counts)
