use Rattle.std.proofs.Common.{refl}
use Rattle.rpki_walk.proofs.lines.remembered.agree.Goals as goal

pub returns : goal.returns
returns c t key m = (λ k. c.if-not-are_on_if_met.ensures refl key k m, λ k. c.are_on_if_met-2.ensures t key k m)
