use Rattle.std.proofs.Common.{◌≡◌, Bool, true, false, not, IsTrue, subst}
use Rattle.rpki_walk.proofs.lines.remembered.is_on_if_met.Goals as goal

pub returns-then-is_listed : goal.returns-then-is_listed
returns-then-is_listed c t m = c.is_listed.ensures.0 c.if-is_listed.true

pub returns : goal.returns
returns c t m = let f : false ≡ true = subst (λ (b : Bool). IsTrue (not b)) (c.is_listed-2.ensures.1 m) t in absurd cc
