use Rattle.std.proofs.Common.{◌≡◌, ◌⊎◌, take}
use Rattle.rpki_walk.specs.rpki_bundle.declared.parts.Locator.{Locator}
use Rattle.rpki_rules.specs.Words.{Mem}
use Rattle.rpki_walk.specs.Facts.{Gains, FromLocator}
use Rattle.rpki_walk.proofs.anchors.walk_all.Given as goal

abbrev pub invariant-loop-at : goal.invariant-loop-at
invariant-loop-at g l = record {
  same : g.S.Repository.world l.repository ≡ g.S.Repository.world l.fn.repository;
  lender : g.S.Repository.lender l.repository ≡ g.S.Repository.lender l.fn.repository;
  kept : g.V.Visitor.uris l.visitor ≡ g.V.Visitor.uris l.fn.visitor;
  gained : Gains g.V.Visitor.wants (g.V.Visitor.has l.fn.visitor) (λ x. ⊥ ⊎ ((u : Locator) × Mem (take l.at (g.S.Repository.world l.fn.repository).locators) u × FromLocator (g.V.Visitor.uris l.fn.visitor) (g.S.Repository.world l.fn.repository) u x)) (g.V.Visitor.has l.visitor);
}
