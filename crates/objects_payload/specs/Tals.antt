-- Trust anchor locators as values, and what reading one answers.
use Rattle.std.specs.Prelude.{◌≡◌, ℕ, ◌^◌, ◌<◌, ◌≤◌, ◌⊎◌, List, length, Option, Result, Ok, Err, String, Vec}
use Rattle.std.specs.declared.alloc.Global.{Global}
use Rattle.std.specs.Io.KnownBytes.{Consumes, IsAtEnd}
use Rattle.objects_payload.specs.certs_basics.Keys.{KeyValue}
use Rattle.objects_payload.specs.Counts.{Counts, one_more}
use Rattle.objects_payload.specs.Locators.{LocatorText}
use Rattle.objects_payload.specs.declared.locator.error.ReadError.{ReadError}
use Rattle.objects_payload.specs.declared.locator.error.ReadError.TheVariants.{Io, UnexpectedEof, BadUri, BadKeyInfoEncoding, BadKeyInfo, Memory}
use Rattle.objects_payload.specs.Faults.{IsFault}

-- The texts of the URIs in their order, the anchor's key, and what the locator is called.
pub record TalValue : Type 0 where
  pub uris : List (List ℕ)
  pub key : KeyValue
  pub info : String Global

-- The locator that the text is, under that name; or the first fault in it.
abbrev pub ReadsTal : String Global → List ℕ → Result TalValue ReadError → Type 0
ReadsTal name text (Ok tal) = LocatorText text tal.uris tal.key × (tal.info ≡ name)
ReadsTal name text (Err e) = IsFault e text

-- The reader gave this text, of fewer than 2^32 octets, and then said that there are no more.
pub record Tells (before after : Option (List ℕ)) (text : List ℕ) : Type 0 where
  pub consumed : Consumes before after text
  pub ended : IsAtEnd after
  pub few : length text < 2 ^ 32

-- The reader gave some octets, 2^32 at most.
pub record GivesSome (before after : Option (List ℕ)) : Type 0 where
  pub octets : List ℕ
  pub consumed : Consumes before after octets
  pub few : length octets ≤ 2 ^ 32

-- The reader's text; or reading stopped, at an error, at 2^32 octets, or for lack of memory.
abbrev pub TakesText : Option (List ℕ) → Option (List ℕ) → Result (Vec ℕ Global) ReadError → Type 0
TakesText before after (Ok text) = Tells before after text.items
TakesText before after (Err Io) = GivesSome before after
TakesText before after (Err UnexpectedEof) = ⊥
TakesText before after (Err BadUri) = ⊥
TakesText before after (Err BadKeyInfoEncoding) = ⊥
TakesText before after (Err BadKeyInfo) = ⊥
TakesText before after (Err Memory) = GivesSome before after

-- What the reader's whole text is read as.
pub record TellsTal (name : String Global) (before after : Option (List ℕ))
    (answer : Result TalValue ReadError) : Type 0 where
  pub text : List ℕ
  pub tells : Tells before after text
  pub reads : ReadsTal name text answer

-- The locator that the reader's whole text is, or the first fault in it; or reading stopped.
abbrev pub ReadsNamed : String Global → Option (List ℕ) → Option (List ℕ)
    → Result TalValue ReadError → Type 0
ReadsNamed name before after (Ok tal) = TellsTal name before after (Ok tal)
ReadsNamed name before after (Err Io) = GivesSome before after
ReadsNamed name before after (Err UnexpectedEof) = TellsTal name before after (Err UnexpectedEof)
ReadsNamed name before after (Err BadUri) = TellsTal name before after (Err BadUri)
ReadsNamed name before after (Err BadKeyInfoEncoding) =
    TellsTal name before after (Err BadKeyInfoEncoding)
ReadsNamed name before after (Err BadKeyInfo) = TellsTal name before after (Err BadKeyInfo)
ReadsNamed name before after (Err Memory) = GivesSome before after

-- No call of the reader failed, and it gave 2^32 octets, as far as they are known.
pub record GivesTooMany (before after : Option (List ℕ)) (failures : Counts) : Type 0 where
  pub octets : List ℕ
  pub consumed : Consumes before after octets
  pub many : length octets ≡ 2 ^ 32
  pub none_failed : failures.after ≡ failures.before

-- `Io` comes where a call of the reader failed, which its count tells, or of 2^32 octets. Else none failed.
abbrev pub FailsAtIo : {A : Type 0} → Option (List ℕ) → Option (List ℕ) → Counts
    → Result A ReadError → Type 0
FailsAtIo before after failures (Ok x) = failures.after ≡ failures.before
FailsAtIo before after failures (Err Io) =
    (failures.after ≡ one_more failures.before) ⊎ GivesTooMany before after failures
FailsAtIo before after failures (Err UnexpectedEof) = failures.after ≡ failures.before
FailsAtIo before after failures (Err BadUri) = failures.after ≡ failures.before
FailsAtIo before after failures (Err BadKeyInfoEncoding) = failures.after ≡ failures.before
FailsAtIo before after failures (Err BadKeyInfo) = failures.after ≡ failures.before
FailsAtIo before after failures (Err Memory) = failures.after ≡ failures.before
