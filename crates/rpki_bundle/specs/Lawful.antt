-- What holds of the parts of each bundle.
use Rattle.std.specs.Prelude.{◌≡◌, ℕ, ◌≤◌, List, length, All}
use Rattle.rpki_bundle.specs.bcder_tree.Strings.{IsPrintable}
use Rattle.rpki_bundle.specs.bcder.Sets.{alone}
use Rattle.rpki_bundle.specs.bcder.Texts.{IsText}
use Rattle.rpki_bundle.specs.declared.limits.TheConstants.{MIN_DEPTH, MAX_DEPTH}
use Rattle.rpki_bundle.specs.declared.parts.Locator.{Locator}
use Rattle.rpki_bundle.specs.declared.parts.Object.{Object}
use Rattle.rpki_bundle.specs.declared.parts.Verdict.{Verdict}
use Rattle.certs_basics.specs.Uris.{IsLookupKey}
use Rattle.rpki_bundle.specs.Orders.{Ascends}
use Rattle.rpki_bundle.specs.Bundle.{BundleValue, IsWord, verdict_row}

-- A name: printable, not empty, without a space.
abbrev pub IsName : List ℕ → Type 0
IsName text = IsText IsPrintable alone text × IsWord text

abbrev pub IsLawfulLocator : Locator → Type 0
IsLawfulLocator l = IsName l.name

-- A URI that is its own lookup key.
abbrev pub IsLawfulObject : Object → Type 0
IsLawfulObject o = IsLookupKey o.uri

-- Three digests of 32 octets each.
abbrev pub IsLawfulVerdict : Verdict → Type 0
IsLawfulVerdict v = (length v.key ≡ 32) × (length v.message ≡ 32) × (length v.signature ≡ 32)

-- Entries that are lawful, strictly ascending by their rows.
pub record IsLawfulList {A : Type 0} (lawful : A → Type 0) (row : A → List ℕ) (xs : List A)
    : Type 0 where
  pub each : All lawful xs
  pub ascend : Ascends row xs

-- A depth as a bundle may have, and lawful lists.
pub record IsLawful (b : BundleValue) : Type 0 where
  pub lowest : MIN_DEPTH ≤ b.depth
  pub greatest : b.depth ≤ MAX_DEPTH
  pub locators : IsLawfulList IsLawfulLocator (λ l. l.name) b.locators
  pub objects : IsLawfulList IsLawfulObject (λ o. o.uri) b.objects
  pub verdicts : IsLawfulList IsLawfulVerdict verdict_row b.verdicts
