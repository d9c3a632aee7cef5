use Rattle.std.proofs.Common.{◌≡◌, ◌⊎◌, [], take}
use Rattle.rpki_walk.specs.rpki_bundle.declared.parts.Locator.{Locator}
use Rattle.rpki_rules.specs.Words.{Mem}
use Rattle.rpki_walk.specs.Facts.{Gains, FromLocator}
use Rattle.rpki_walk.specs.Alike.{IsPrinted}
use Rattle.rpki_walk.specs.Walked.{has_lines, AreWalked}
use Rattle.rpki_walk.proofs.lines.whole.walk_lines.Given as goal

abbrev pub invariant-loop-at : goal.invariant-loop-at
invariant-loop-at g l = record {
  same : g.S.Repository.world l.repository ≡ g.S.Repository.world l.fn.repository;
  lender : g.S.Repository.lender l.repository ≡ g.S.Repository.lender l.fn.repository;
  walked : AreWalked (g.S.Repository.world l.fn.repository) l.walk;
  gained : Gains IsPrinted (λ x. ⊥) (λ x. ⊥ ⊎ ((u : Locator) × Mem (take l.at (g.S.Repository.world l.fn.repository).locators) u × FromLocator [] (g.S.Repository.world l.fn.repository) u x)) (has_lines l.walk.lines);
}
