-- What the contents of a folder tell.
use Rattle.std.specs.Prelude.{◌≡◌, ℕ, ◌^◌, ◌<◌, Bool, List, Option, Some, None, length}
use Rattle.std.specs.Prelude.{Vec}
use Rattle.std.specs.declared.alloc.Global.{Global}
use Rattle.std.specs.Ordering.{nat_cmp}
use Rattle.std.specs.Cmp.Lexicographic.{slice_cmp}
use Rattle.std.specs.List.Sorted.{IsPermutation, IsSortedByKey}
use Rattle.rpki_commands.specs.rpki_bundle.declared.error.BundleError.{BundleError}
use Rattle.rpki_commands.specs.rpki_bundle.declared.error.BundleError.TheVariants.{NotABundle, Memory}
use Rattle.rpki_commands.specs.rpki_bundle.declared.parts.Verdict.{Verdict}
use Rattle.rpki_commands.specs.rpki_bundle.declared.version.Version.{Version}
use Rattle.rpki_commands.specs.rpki_bundle.declared.version.Version.TheVariants.{Zero, One}
use Rattle.rpki_commands.specs.rpki_bundle.Bundle.{BundleValue, verdict_row}
use Rattle.rpki_commands.specs.Lines.{TellsMoment, TellsDepth, TellsFlag}
use Rattle.rpki_commands.specs.Verdicts.{StartsWithVerdict, TellsVerdicts}
use Rattle.rpki_commands.specs.declared.folder.parts.Contents.{Contents}
use Rattle.rpki_commands.specs.declared.folder.parts.Parts.{Parts}

-- None of the list stands before the one in front of it, compared by rows of octets.
abbrev pub IsSortedOn : {X : Type 0} → (X → List ℕ) → List X → Type 0
IsSortedOn row xs = IsSortedByKey row (slice_cmp nat_cmp) xs

-- The version: 1 where a text says whether signed objects are relaxed, and 0 where there is none.
abbrev pub TellsVersion : Option (Vec ℕ Global) → Version → Type 0
TellsVersion None version = version ≡ Zero
TellsVersion (Some text) version =
    (relaxed : Bool) × TellsFlag text.items relaxed × (version ≡ One relaxed)

-- The texts of one line are good, and `verdicts` isn't too long: what can be said before any memory is taken.
pub record TellsLines (c : Contents) : Type 0 where
  pub version : Version
  pub version_is : TellsVersion c.relaxed version
  pub moment : ℕ
  pub moment_is : TellsMoment c.moment.items moment
  pub depth : ℕ
  pub depth_is : TellsDepth c.depth.items depth
  pub short : length c.verdicts.items < 2 ^ 32

-- That, and the first line of `verdicts` states one.
pub record TellsSome (c : Contents) : Type 0 where
  pub lines : TellsLines c
  pub first : StartsWithVerdict c.verdicts.items

-- A fact where a growth of memory was refused.
abbrev pub OnMemory : BundleError → Type 0 → Type 0
OnMemory NotABundle fact = Unit {0}
OnMemory Memory fact = fact

-- The parts, with all that was read and nothing else, the lists in any order.
pub record Tells (c : Contents) (b : BundleValue) : Type 0 where
  pub verdicts : List Verdict
  pub version_is : TellsVersion c.relaxed b.version
  pub moment_is : TellsMoment c.moment.items b.moment
  pub depth_is : TellsDepth c.depth.items b.depth
  pub short : length c.verdicts.items < 2 ^ 32
  pub verdicts_are : TellsVerdicts c.verdicts.items verdicts
  pub same_locators : IsPermutation c.locators.items b.locators
  pub same_objects : IsPermutation c.objects.items b.objects
  pub same_verdicts : IsPermutation verdicts b.verdicts

-- What parts are in a bundle.
abbrev pub value_of : Parts → BundleValue
value_of p = record {
  version = p.version;
  moment = p.moment;
  depth = p.depth;
  locators = p.locators.items;
  objects = p.objects.items;
  verdicts = p.verdicts.items;
}

-- The parts, sorted.
pub record TellsParts (c : Contents) (p : Parts) : Type 0 where
  pub told : Tells c (value_of p)
  pub locators_sorted : IsSortedOn (λ l. l.name) p.locators.items
  pub objects_sorted : IsSortedOn (λ o. o.uri) p.objects.items
  pub verdicts_sorted : IsSortedOn verdict_row p.verdicts.items
