-- Laws of reasons: what is refused has a reason, and one.
use Rattle.std.specs.Prelude.{◌≡◌, ◌+◌, ◌⊎◌, ℕ, List, length}
use Rattle.rpki_rules.specs.rpki_bundle.declared.parts.Locator.{Locator}
use Rattle.rpki_rules.specs.rpki_bundle.Bundle.{BundleValue, BundleText}
use Rattle.rpki_rules.specs.declared.cause.Cause.{Cause}
use Rattle.rpki_rules.specs.declared.cause.Cause.TheVariants as cause
use Rattle.rpki_rules.specs.Certs.{Digests, Verdicts, Cert}
use Rattle.rpki_rules.specs.Words.{Mem}
use Rattle.rpki_rules.specs.Kinds.{Kind}
use Rattle.rpki_rules.specs.World.{World, world_of}
use Rattle.rpki_rules.specs.Points.{Link, Point, files}
use Rattle.rpki_rules.specs.Chains.{last_of, keys, Holds, Stands, Accepted}
use Rattle.rpki_rules.specs.Refused.{LocatorRefused, AnchorRefused, PointRefused, FileRefused}
use Rattle.rpki_rules.specs.resources_chain.Sets.{Run}
use Rattle.rpki_rules.specs.Reasons.{FitsKind, AreUnheld}
use Rattle.rpki_rules.specs.LocatorReasons.{locator_cause, LocatorFails}
use Rattle.rpki_rules.specs.PointReasons.{PointFails}
use Rattle.rpki_rules.specs.FileReasons.{file_cause, FileFails}

-- Where a reason's condition fails, that is refused by its cause; what is refused by a cause isn't
-- without a reason of that cause; and there is one reason at most.
pub record HaveReasons {R : Type 0} (refused : Cause → Type 0) (cause_of : R → Cause)
    (fails : R → Type 0) : Type 0 where
  pub refuses : (r : R) → fails r → refused (cause_of r)
  pub some : (why : Cause) → refused why → ¬ ((r : R) → cause_of r ≡ why → ¬ (fails r))
  pub one : (r s : R) → fails r → fails s → r ≡ s

-- What is refused of a locator's name.
abbrev pub IsLocatorRefused : World → List ℕ → Cause → Type 0
IsLocatorRefused w name why =
    ((why ≡ cause.Tal) × LocatorRefused w name) ⊎ ((why ≡ cause.Anchor) × AnchorRefused w name)

-- A locator whose name no other has.
pub record IsNamedAlone (w : World) (l : Locator) : Type 0 where
  pub in_list : Mem w.locators l
  pub alone : (other : Locator) → Mem w.locators other → other.name ≡ l.name → other ≡ l

-- In a bundle's world each locator's name is its own.
abbrev pub NamesAreAlone : Type 0
NamesAreAlone =
    (d : Digests) (v : Verdicts) (octets : List ℕ) (b : BundleValue) → BundleText octets b →
    (l : Locator) → Mem b.locators l → IsNamedAlone (world_of d v b) l

abbrev pub LocatorsHaveReasons : Type 0
LocatorsHaveReasons = (w : World) (l : Locator) → IsNamedAlone w l →
    HaveReasons (IsLocatorRefused w l.name) locator_cause (LocatorFails w l)

-- The point of an accepted chain.
abbrev pub PointsHaveReasons : Type 0
PointsHaveReasons = (w : World) (name : List ℕ) (a : Link) (cs : List Link) → Accepted w name a cs →
    HaveReasons (λ why. (why ≡ cause.Point) × PointRefused w name a cs (last_of a cs).uri)
    (λ r. cause.Point) (PointFails w (Holds a cs) (last_of a cs).cert)

-- A file of a point that stands.
abbrev pub FilesHaveReasons : Type 0
FilesHaveReasons =
    (w : World) (name : List ℕ) (a : Link) (cs : List Link) (p : Point) (uri : List ℕ) →
    Accepted w name a cs → Stands w a cs p → Mem (files (last_of a cs).cert p.manifest) uri →
    HaveReasons (FileRefused w name a cs uri) file_cause
    (FileFails w (Holds a cs) (keys a cs) (length cs + 1) (last_of a cs).cert p uri)

-- Where these are the numbers that a chain doesn't hold the kind doesn't fit, and no others are.
abbrev pub OneUnheld : Type 0
OneUnheld =
    (a : Link) (cs : List Link) (c : Cert) (k : Kind) (runs : List Run) →
    AreUnheld (Holds a cs) c k runs → ¬ (FitsKind (Holds a cs) c k)
    × ((other : List Run) → AreUnheld (Holds a cs) c k other → other ≡ runs)
