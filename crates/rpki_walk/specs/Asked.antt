-- What a bundle answers that is asked why something is refused.
use Rattle.std.specs.Prelude.{ℕ, List, length, Option, Some, None, Result, Ok, Err}
use Rattle.rpki_walk.specs.rpki_bundle.declared.parts.Locator.{Locator}
use Rattle.rpki_rules.specs.Certs.{Cert}
use Rattle.rpki_rules.specs.Kinds.{Kind}
use Rattle.rpki_rules.specs.World.{World}
use Rattle.rpki_rules.specs.Points.{Point}
use Rattle.rpki_rules.specs.Chains.{StandsIn}
use Rattle.rpki_rules.specs.declared.reason.locators.LocatorReason.{LocatorReason}
use Rattle.rpki_rules.specs.LocatorReasons.{LocatorFails}
use Rattle.rpki_rules.specs.PointReasons.{PointFails}
use Rattle.rpki_rules.specs.FileReasons.{FileReason, FileFails}
use Rattle.rpki_rules.specs.declared.reason.points.PointReason.{PointReason as CodePointReason}
use Rattle.rpki_rules.specs.declared.reason.files.FileReason.{FileReason as CodeFileReason}
use Rattle.rpki_rules.specs.ReasonViews.{point_reason_of, file_reason_of, PointUnheld, FileUnheld}

-- The locator has this reason, or none.
abbrev pub HasLocatorReason : World → Locator → Option LocatorReason → Type 0
HasLocatorReason w l None = (r : LocatorReason) → ¬ (LocatorFails w l r)
HasLocatorReason w l (Some r) = LocatorFails w l r

-- In what follows `held` says what the chain holds, and `on` its keys.

-- The authority's point stands, or has this reason, which tells just the numbers that aren't held.
abbrev pub IsJudged : {P : Type 0} → (P → Point) → World → (Kind → ℕ → Type 0) → Cert
    → Result P CodePointReason → Type 0
IsJudged point w held ca (Ok p) = StandsIn w held ca (point p)
IsJudged point w held ca (Err r) =
    PointFails w held ca (point_reason_of r) × PointUnheld w held ca r

-- The file has this reason, which tells just the numbers that aren't held, or none.
abbrev pub HasFileReason : World → (Kind → ℕ → Type 0) → List (List ℕ) → Cert → Point → List ℕ
    → Option CodeFileReason → Type 0
HasFileReason w held on ca p uri None =
    (r : FileReason) → ¬ (FileFails w held on (length on) ca p uri r)
HasFileReason w held on ca p uri (Some r) =
    FileFails w held on (length on) ca p uri (file_reason_of r) × FileUnheld w held uri r
