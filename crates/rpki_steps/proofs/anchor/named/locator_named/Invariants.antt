use Rattle.std.proofs.Common.{◌≡◌, length}
use Rattle.rpki_rules.specs.Words.{Mem}
use Rattle.rpki_standing.specs.rpki_bundle.declared.parts.Locator.{Locator}
use Rattle.rpki_steps.proofs.anchor.named.locator_named.Given as goal

abbrev pub invariant-loop-first : goal.invariant-loop-first
invariant-loop-first l = ((x : Locator) → Mem l.rest x → Mem l.fn.locators x) × ((x : Locator) → Mem l.fn.locators x → x.name ≡ l.fn.name → Mem l.rest x)

abbrev pub decreases-loop-first : goal.decreases-loop-first
decreases-loop-first l = length l.rest
