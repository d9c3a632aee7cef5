-- What asking does to its reader and its writer, as far as their octets are known.
use Rattle.std.specs.Prelude.{ℕ, Bool, List, Option, Err}
use Rattle.std.specs.Io.KnownBytes.{Appends, Keeps}
use Rattle.rpki_digests.specs.Fips.{fips}
use Rattle.rpki_validator.specs.Bundle.{BundleValue}
use Rattle.rpki_validator.specs.Counts.{Counts}
use Rattle.rpki_validator.specs.Run.{CountsReads, CountsWrites, ReadsBundle, ReadsNoBundle, ReadsSome}
use Rattle.rpki_validator.specs.Streams.{TakesSome}
use Rattle.rpki_validator.specs.declared.runs.RunError.{RunError}
use Rattle.rpki_validator.specs.declared.runs.RunError.TheVariants as errors
use Rattle.rpki_validator.specs.rpki_rules.World.{run_world}
use Rattle.rpki_questions.specs.Answers.{IsAnswer}
use Rattle.rpki_questions.specs.Requests.{Asked}

-- A bundle was read to the end of the input, and the text is that of the answer to what is asked of it.
pub record HasAnswer (json : Bool) (asked : Asked) (read_before read_after : Option (List ℕ))
    (yes : Bool) (text : List ℕ) : Type 0 where
  pub bundle : BundleValue
  pub read : ReadsBundle read_before read_after bundle
  pub answer : IsAnswer (run_world fips bundle) json asked yes text

-- All of the text was written,
pub record Answers (json : Bool) (asked : Asked) (yes : Bool)
    (read_before read_after written_before written_after : Option (List ℕ)) : Type 0 where
  pub text : List ℕ
  pub has : HasAnswer json asked read_before read_after yes text
  pub written : Appends written_before written_after text

-- or a front of it that lacks something.
pub record StopsAnswering (json : Bool) (asked : Asked)
    (read_before read_after written_before written_after : Option (List ℕ)) : Type 0 where
  pub yes : Bool
  pub text : List ℕ
  pub has : HasAnswer json asked read_before read_after yes text
  pub written : TakesSome written_before written_after text

-- What each fault says of what was read and of what was written.
abbrev pub AskFails : Bool → Asked → RunError → Option (List ℕ) → Option (List ℕ)
    → Option (List ℕ) → Option (List ℕ) → Type 0
AskFails json asked errors.Read r r' w w' = ReadsSome r r' × Keeps w w'
AskFails json asked errors.NotABundle r r' w w' = ReadsNoBundle r r' × Keeps w w'
AskFails json asked errors.Write r r' w w' = StopsAnswering json asked r r' w w'
AskFails json asked errors.Memory r r' w w' = ReadsSome r r' × Keeps w w'

-- Asking ended with an error, and each count says whether it was that one's.
pub record EndsInFault (json : Bool) (asked : Asked)
    (read_before read_after written_before written_after : Option (List ℕ))
    (reads writes : Counts) : Type 0 where
  pub error : RunError
  pub fails : AskFails json asked error read_before read_after written_before written_after
  pub read_count : CountsReads {T = Unit {0}} (Err error) reads.before reads.after
  pub write_count : CountsWrites {T = Unit {0}} (Err error) writes.before writes.after
