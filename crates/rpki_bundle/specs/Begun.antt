-- With what a bundle begins, up to its lists: what lack of memory shows of octets that are read as one, since nothing
-- before the lists takes memory.
use Rattle.std.specs.Prelude.{◌≡◌, ℕ, List, Result, Ok, Err, true}
use Rattle.rpki_bundle.specs.bcder_tree.declared.mode.Mode.TheVariants.{Der}
use Rattle.rpki_bundle.specs.bcder_tree.Sequences.{sequence_tag}
use Rattle.rpki_bundle.specs.bcder_source.declared.error.DecodeError.{DecodeError}
use Rattle.rpki_bundle.specs.bcder_content.declared.ending.Span.{Span}
use Rattle.rpki_bundle.specs.bcder_content.Contents.{ValuesLeft}
use Rattle.rpki_bundle.specs.bcder_content.Exact.{Gives}
use Rattle.rpki_bundle.specs.bcder_content.ClosureReads.{Enters, fresh}
use Rattle.rpki_bundle.specs.bcder_content.Memory.{OnMemory}
use Rattle.rpki_bundle.specs.declared.version.Version.{Version}
use Rattle.rpki_bundle.specs.declared.version.Version.TheVariants.{Zero, One}
use Rattle.rpki_bundle.specs.Bundle.{IsNumber, IsMomentString, IsDepthNumber, IsFlag}

-- The BOOLEAN of version 1 is in front; version 0 has none.
abbrev pub GivesFlag : ℕ → Version → ValuesLeft → ValuesLeft → Type 0
GivesFlag number Zero v behind = (number ≡ 0) × (behind ≡ v)
GivesFlag number (One relaxed) v behind = (number ≡ 1) × Gives (IsFlag v.mode) v relaxed behind

-- The fields before the lists are in front: version, moment, depth, and the flag.
pub record BeginsFields (v : ValuesLeft) : Type 0 where
  pub number : ℕ
  pub moment : ℕ
  pub depth : ℕ
  pub version : Version
  pub behind_number : ValuesLeft
  pub behind_moment : ValuesLeft
  pub behind_depth : ValuesLeft
  pub lists : ValuesLeft
  pub number_is : Gives IsNumber v number behind_number
  pub moment_is : Gives IsMomentString behind_number moment behind_moment
  pub depth_is : Gives IsDepthNumber behind_moment depth behind_depth
  pub flag_is : GivesFlag number version behind_depth lists

-- A SEQUENCE is in front, and its content begins so.
pub record BeginsBundle (v : ValuesLeft) : Type 0 where
  pub span : Span
  pub inner : ValuesLeft
  pub enters : Enters v true sequence_tag span inner
  pub fields : BeginsFields inner

-- The octets begin so, in DER.
abbrev pub BeginsText : List ℕ → Type 0
BeginsText octets = BeginsBundle (fresh Der octets)

-- A fact where something was read, or memory was lacking.
abbrev pub Found : {A E : Type 0} → Result A (DecodeError E) → Type 0 → Type 0
Found (Ok x) fact = fact
Found (Err e) fact = OnMemory e fact
