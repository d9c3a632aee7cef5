use Rattle.std.proofs.Common.{ℕ, ◌<◌}
use Rattle.rpki_walk.specs.Repository.{locator_at}
use Rattle.rpki_walk.specs.Naming.{LocatorNames}
use Rattle.rpki_walk.proofs.reach.locators.some_locator_names.Given as goal

abbrev pub invariant-loop-at : goal.invariant-loop-at
invariant-loop-at g l = (k : ℕ) → k < l.at → ¬ (LocatorNames l.wanted (locator_at (g.S.Repository.world l.repository) k))
