use Rattle.std.proofs.Common.{◌≡◌, [], true, take}
use Rattle.rpki_walk.specs.Tallied.{IsOf, Tallies}
use Rattle.rpki_walk.proofs.Tallies.{UpTo}
use Rattle.rpki_walk.proofs.cost.whole.cost.Given as goal

abbrev pub invariant-loop-at : goal.invariant-loop-at
invariant-loop-at g l = record {
  same : g.S.Repository.world l.repository ≡ g.S.Repository.world l.fn.repository;
  lender : g.S.Repository.lender l.repository ≡ g.S.Repository.lender l.fn.repository;
  budget : l.tally.budget ≡ l.fn.budget;
  counted : Tallies (UpTo (λ c. ⊥) (IsOf (g.S.Repository.world l.fn.repository)) (take l.at (g.S.Repository.world l.fn.repository).locators)) [] l.tally true;
}
