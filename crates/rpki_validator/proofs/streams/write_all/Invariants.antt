use Rattle.rpki_validator.proofs.streams.write_all.Given as goal
use Rattle.std.proofs.Common.{◌≡◌, List, ℕ, ◌++◌, length}
use Rattle.std.specs.Io.KnownBytes.{Appends}

abbrev pub invariant-loop-rest : goal.invariant-loop-rest
invariant-loop-rest g l = record {
  taken : List ℕ;
  whole : l.text ≡ taken ++ l.rest;
  appended : Appends (g.W.Write.contents l.fn.writer.inner) (g.W.Write.contents l.writer.inner) taken;
  none_failed : l.writer.failures ≡ l.fn.writer.failures;
}

abbrev pub decreases-loop-rest : goal.decreases-loop-rest
decreases-loop-rest g l = length l.rest
