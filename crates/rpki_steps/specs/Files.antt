-- What a file of an authority's publication point is, by what the authority holds.
use Rattle.std.specs.Prelude.{◌≡◌, ◌<◌, ◌≤◌, ℕ, List, length, Option, Some, None, Result, Ok, Err}
use Rattle.rpki_steps.specs.Holders.{cert_of, sets_of}
use Rattle.rpki_steps.specs.certs_verify.Holders.{ResourceCertValue}
use Rattle.rpki_rules.specs.declared.cause.Cause.TheVariants as cause
use Rattle.rpki_rules.specs.declared.reason.files.FileReason.{FileReason}
use Rattle.rpki_rules.specs.declared.reason.files.FileReason.TheVariants as told
use Rattle.rpki_rules.specs.Attests.{IsGood}
use Rattle.rpki_rules.specs.Kinds.{InSet}
use Rattle.rpki_rules.specs.Points.{Point}
use Rattle.rpki_rules.specs.Refused.{IsIssued}
use Rattle.rpki_rules.specs.Words.{Mem}
use Rattle.rpki_rules.specs.World.{World}
use Rattle.rpki_rules.specs.FileReasons.{FileFails, file_cause}
use Rattle.rpki_rules.specs.ReasonViews.{FileUnheld, file_reason_of}
use Rattle.rpki_walk.specs.Repository.{HasKept, IsFileKind, IsIgnored}
use Rattle.rpki_walk.specs.declared.repository.FileKind.{FileKind}
use Rattle.rpki_walk.specs.declared.repository.FileKind.TheVariants as Is
use Rattle.rpki_standing.specs.Views.{payload_of}
use Rattle.rpki_standing.specs.declared.payloads.payload.Payload.{Payload}

abbrev pub IsFile : World → ResourceCertValue → Point → List ℕ
    → FileKind ResourceCertValue Payload → Type 0
IsFile w ca p uri filed =
    IsFileKind cert_of sets_of payload_of w (InSet (sets_of ca)) (cert_of ca) p uri filed

-- Why a file is refused, keys and depth of chains apart, with the numbers that aren't held where it claims them.
pub record IsBadFile (w : World) (ca : ResourceCertValue) (p : Point) (uri : List ℕ)
    (r : FileReason) : Type 0 where
  pub fails : (on : List (List ℕ)) (count : ℕ) →
      FileFails w (InSet (sets_of ca)) on count (cert_of ca) p uri (file_reason_of r)
  pub unheld : FileUnheld w (InSet (sets_of ca)) uri r
  pub cause_is : file_cause (file_reason_of r) ≡ cause.Object

-- What a file is with which nothing is wrong, keys and depth of chains apart; else why it is refused.
abbrev pub JudgesFile : World → ResourceCertValue → Point → List ℕ
    → Result (FileKind ResourceCertValue Payload) FileReason → Type 0
JudgesFile w ca p uri (Ok Is.Nothing) = IsIgnored w uri
JudgesFile w ca p uri (Ok Is.Bad) = ⊥
JudgesFile w ca p uri (Ok (Is.Child a)) =
    IsIssued w (InSet (sets_of ca)) (cert_of ca) p uri (cert_of a)
    × HasKept (InSet (sets_of ca)) (cert_of a) (sets_of a)
JudgesFile w ca p uri (Ok (Is.Attests x)) =
    IsGood w (InSet (sets_of ca)) (cert_of ca) p uri (payload_of x)
JudgesFile w ca p uri (Err r) = IsBadFile w ca p uri r

-- Why a certificate with that key may not follow a chain with these keys, if it may not: it is one of them, or they are as
-- many as a chain may have.
abbrev pub TellsChain : List ℕ → List (List ℕ) → ℕ → Option FileReason → Type 0
TellsChain key on depth None = ¬ (Mem on key) × (length on < depth)
TellsChain key on depth (Some told.BadCer) = ⊥
TellsChain key on depth (Some (told.CerFails t)) = ⊥
TellsChain key on depth (Some told.Loop) = Mem on key
TellsChain key on depth (Some told.Depth) = ¬ (Mem on key) × (depth ≤ length on)
TellsChain key on depth (Some told.BadObject) = ⊥
TellsChain key on depth (Some (told.ObjectFails t)) = ⊥
