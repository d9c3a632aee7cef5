use Rattle.std.proofs.Common.{sym, ◌∙◌, refl, arith}
use Rattle.resources_chain.proofs.RowLemmas.{has_room, halving_less, halving_greater}
use Rattle.resources_chain.proofs.row.halve.Goals as goal

pub look-requires-clause-room : goal.look-requires-clause-room
look-requires-clause-room g c = has_room c.loop-low.invariant.left (omega arith) (omega arith) c.requires.room

pub loop-low-preserved-in-Less : goal.loop-low-preserved-in-Less
loop-low-preserved-in-Less g c =
    halving_less _ _ _ _ c.requires.order c.loop-low.invariant c.loop-low-test.true refl c.look.ensures.same_size c.look.ensures.same_places c.look.ensures.counted (sym c.look.ensures.answer ∙ c.in-Less.is)

pub loop-low-preserved : goal.loop-low-preserved
loop-low-preserved g c =
    halving_greater _ _ _ _ c.requires.order c.loop-low.invariant c.loop-low-test.true refl c.look.ensures.same_size c.look.ensures.same_places c.look.ensures.counted (sym c.look.ensures.answer ∙ c.in-Greater.is)
