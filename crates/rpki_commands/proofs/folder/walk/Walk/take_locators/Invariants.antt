use Rattle.rpki_commands.specs.Limits.{IsWalked}
use Rattle.rpki_commands.proofs.folder.walk.Walk.take_locators.Given as goal

abbrev pub invariant-loop-entry : goal.invariant-loop-entry
invariant-loop-entry g l = IsWalked 0 l.fn.self → IsWalked 0 l.self
