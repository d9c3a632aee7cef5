use Rattle.std.proofs.Common.{◌≤◌, vec_len}
use Rattle.rpki_commands.proofs.folder.files.read_file.Given as goal

abbrev pub invariant-loop-unread : goal.invariant-loop-unread
invariant-loop-unread g l = vec_len l.octets ≤ l.fn.most

abbrev pub decreases-loop-unread : goal.decreases-loop-unread
decreases-loop-unread g l = l.unread
