use Rattle.std.proofs.Common.{◌≡◌, ◌≤◌, ℕ, List, take, unwrap_or}
use Rattle.rpki_rules.specs.Words.{NoRepeat}
use Rattle.rpki_walk.specs.Tallied.{Adds, told}
use Rattle.rpki_walk.proofs.cost.tally.Tally.add.Given as goal

abbrev pub invariant-loop-authority : goal.invariant-loop-authority
invariant-loop-authority l = record {
  spent : l.self.spent ≡ l.fn.self.spent;
  budget : l.self.budget ≡ l.fn.self.budget;
  added : NoRepeat l.above → ((u : List ℕ) → unwrap_or (told l.fn.self.counts u) 0 ≤ l.fn.self.spent) → Adds l.fn.self.counts l.self.counts (take l.authority-index l.above);
}
