-- What `check` did where it answers that something was at fault.
use Rattle.std.specs.Prelude.{ℕ, List, Option, Err}
use Rattle.rpki_validator.specs.declared.runs.RunError.{RunError}
use Rattle.rpki_validator.specs.Counts.{Counts}
use Rattle.rpki_validator.specs.Run.{RunFails, CountsReads, CountsWrites}
use Rattle.rpki_digests.specs.Fips.{fips}

-- The run ended with an error, and each count says whether it was that one's.
pub record EndsInFault (read_before read_after written_before written_after : Option (List ℕ))
    (reads writes : Counts) : Type 0 where
  pub error : RunError
  pub fails : RunFails fips error read_before read_after written_before written_after
  pub read_count : CountsReads {T = Unit {0}} (Err error) reads.before reads.after
  pub write_count : CountsWrites {T = Unit {0}} (Err error) writes.before writes.after
