use Rattle.std.proofs.Common.{◌∷◌}
use Rattle.rpki_validator.specs.rpki_walk.Cost.{count_of}
use Rattle.rpki_questions.specs.Costed.{count_object}
use Rattle.rpki_questions.proofs.FactTexts.{one_more}
use Rattle.rpki_questions.proofs.costs.push_objects.Goals as goal

pub loop-count-preserved : goal.loop-count-preserved
loop-count-preserved c =
    one_more (λ x. 44 ∷ count_object (count_of x)) c.args.counts.now c.loop-count.count-index c.count-item.result _ _ _ c.loop-count-test.true c.count-item.is c.loop-count.invariant c.in_ok-push_object.ensures
