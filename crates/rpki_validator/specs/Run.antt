-- What a run does to its reader and its writer, as far as their octets are known.
use Rattle.std.specs.Prelude.{◌≡◌, ℕ, ◌+◌, ◌^◌, ◌≤◌, List, Option, Result, Ok, Err, length}
use Rattle.std.specs.Io.KnownBytes.{Consumes, Appends, Keeps, IsAtEnd}
use Rattle.rpki_bundle.specs.Bundle.{BundleValue, BundleText}
use Rattle.rpki_validator.specs.declared.runs.RunError.{RunError}
use Rattle.rpki_validator.specs.declared.runs.RunError.TheVariants as errors
use Rattle.rpki_validator.specs.Streams.{ReadsUpTo, TakesSome}
use Rattle.rpki_validator.specs.rpki_rules.Output.{IsOutput}
use Rattle.rpki_validator.specs.rpki_rules.World.{run_world}
use Rattle.rpki_validator.specs.rpki_rules.Certs.{Digests}

-- One octet more than any bundle has: where reading stops.
abbrev pub most_octets : ℕ
most_octets = 2 ^ 32 + 6

-- The reader gave the octets of this bundle, and then said that there are no more.
pub record ReadsBundle (before after : Option (List ℕ)) (b : BundleValue) : Type 0 where
  pub octets : List ℕ
  pub consumed : Consumes before after octets
  pub ended : IsAtEnd after
  pub text : BundleText octets b

-- The reader gave all its octets, or as many as no bundle has, and they are those of no bundle.
pub record ReadsNoBundle (before after : Option (List ℕ)) : Type 0 where
  pub octets : List ℕ
  pub few : length octets ≤ most_octets
  pub read : ReadsUpTo most_octets before after octets
  pub none : (b : BundleValue) → BundleText octets b → ⊥

-- The reader gave some octets, no more than the limit.
pub record ReadsSome (before after : Option (List ℕ)) : Type 0 where
  pub octets : List ℕ
  pub few : length octets ≤ most_octets
  pub consumed : Consumes before after octets

-- In what follows `d` are the digest functions of the run.

-- The text of a bundle that was read: its output by the rules, good signatures being those that its table has.
pub record HasText (d : Digests) (before after : Option (List ℕ)) (text : List ℕ) : Type 0 where
  pub bundle : BundleValue
  pub read : ReadsBundle before after bundle
  pub output : IsOutput (run_world d bundle) text

-- All of the text was written,
pub record Prints (d : Digests)
    (read_before read_after written_before written_after : Option (List ℕ)) : Type 0 where
  pub text : List ℕ
  pub has : HasText d read_before read_after text
  pub written : Appends written_before written_after text

-- or a front of it that lacks something.
pub record StopsPrinting (d : Digests)
    (read_before read_after written_before written_after : Option (List ℕ)) : Type 0 where
  pub text : List ℕ
  pub has : HasText d read_before read_after text
  pub written : TakesSome written_before written_after text

-- What each refusal says of what was read and of what was written.
abbrev pub RunFails : Digests → RunError → Option (List ℕ) → Option (List ℕ) → Option (List ℕ)
    → Option (List ℕ) → Type 0
RunFails d errors.Read r r' w w' = ReadsSome r r' × Keeps w w'
RunFails d errors.NotABundle r r' w w' = ReadsNoBundle r r' × Keeps w w'
RunFails d errors.Write r r' w w' = StopsPrinting d r r' w w'
RunFails d errors.Memory r r' w w' = ReadsSome r r' × Keeps w w'

-- The reader's count of failures rises by one exactly at `Read`.
abbrev pub CountsReads : {T : Type 0} → Result T RunError → ℕ → ℕ → Type 0
CountsReads (Ok x) old new = new ≡ old
CountsReads (Err errors.Read) old new = new ≡ old + 1
CountsReads (Err errors.NotABundle) old new = new ≡ old
CountsReads (Err errors.Write) old new = new ≡ old
CountsReads (Err errors.Memory) old new = new ≡ old

-- The writer's count of failures rises by one exactly at `Write`.
abbrev pub CountsWrites : {T : Type 0} → Result T RunError → ℕ → ℕ → Type 0
CountsWrites (Ok x) old new = new ≡ old
CountsWrites (Err errors.Read) old new = new ≡ old
CountsWrites (Err errors.NotABundle) old new = new ≡ old
CountsWrites (Err errors.Write) old new = new ≡ old + 1
CountsWrites (Err errors.Memory) old new = new ≡ old

-- Why octets are no bundle's, or there was no memory.
abbrev pub IsNoBundle : RunError → List ℕ → Type 0
IsNoBundle errors.Read octets = ⊥
IsNoBundle errors.NotABundle octets = (b : BundleValue) → BundleText octets b → ⊥
IsNoBundle errors.Write octets = ⊥
IsNoBundle errors.Memory octets = Unit {0}

-- What a refusal says of what was read, where nothing is written.
abbrev pub BundleFails : RunError → Option (List ℕ) → Option (List ℕ) → Type 0
BundleFails errors.Read r r' = ReadsSome r r'
BundleFails errors.NotABundle r r' = ReadsNoBundle r r'
BundleFails errors.Write r r' = ⊥
BundleFails errors.Memory r r' = ReadsSome r r'
