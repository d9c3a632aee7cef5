use Rattle.std.proofs.Common.{◌+◌, ◌≤◌, vec_len}
use Rattle.rpki_commands.specs.Limits.{IsPending, IsWalked}
use Rattle.rpki_commands.proofs.folder.walk.Walk.list.Given as goal

abbrev pub invariant-loop-entry : goal.invariant-loop-entry
invariant-loop-entry g l = record {
  fewer : l.self.entries_left + vec_len l.self.pending ≤ l.fn.self.entries_left + vec_len l.fn.self.pending;
  walked : IsWalked 0 l.fn.self → IsPending l.fn.folder → IsWalked 0 l.self;
}
