use Rattle.std.proofs.Common.{◌+◌, vec_len}
use Rattle.rpki_commands.specs.Limits.{IsScheme, IsWalked}
use Rattle.rpki_commands.proofs.folder.walk.Walk.walk.Given as goal

abbrev pub invariant-loop-folder : goal.invariant-loop-folder
invariant-loop-folder g l = IsWalked 0 l.fn.self → IsScheme l.fn.uri → IsWalked 0 l.self

abbrev pub decreases-loop-folder : goal.decreases-loop-folder
decreases-loop-folder g l = l.self.entries_left + vec_len l.self.pending
