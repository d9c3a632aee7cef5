use Rattle.rpki_validator.proofs.streams.read_all.Given as goal
use Rattle.std.proofs.Common.{◌≡◌, ◌-◌, ◌≤◌, length, vec_len}
use Rattle.std.specs.Io.KnownBytes.{Consumes}

abbrev pub invariant-loop-piece : goal.invariant-loop-piece
invariant-loop-piece g l = record {
  so_far : Consumes (g.R.Read.remaining l.fn.reader.inner) (g.R.Read.remaining l.reader.inner) l.text.items;
  within : vec_len l.text ≤ l.limit;
  none_failed : l.reader.failures ≡ l.fn.reader.failures;
  room : length l.piece ≡ 65536;
}

abbrev pub decreases-loop-piece : goal.decreases-loop-piece
decreases-loop-piece g l = l.limit - vec_len l.text
