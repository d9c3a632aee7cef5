-- What was read of a bundle and of its parts, field by field, and what it means.
use Rattle.std.specs.Prelude.{ℕ, List, Result, Ok, Err}
use Rattle.rpki_bundle.specs.bcder_tree.declared.mode.Mode.{Mode}
use Rattle.rpki_bundle.specs.bcder_tree.Tree.{Trees}
use Rattle.rpki_bundle.specs.bcder_source.Errors.{OnContent}
use Rattle.rpki_bundle.specs.bcder_source.declared.error.DecodeError.{DecodeError}
use Rattle.rpki_bundle.specs.bcder_content.Grammar.{End, Then}
use Rattle.rpki_bundle.specs.declared.parts.Locator.{Locator}
use Rattle.rpki_bundle.specs.declared.parts.Object.{Object}
use Rattle.rpki_bundle.specs.declared.whole.Entries.{Entries}
use Rattle.rpki_bundle.specs.declared.whole.Parts.{Parts}
use Rattle.rpki_bundle.specs.Bundle.{BundleValue, Strings, Lists, BundleFields, number_of, as_bundle, IsBundle, BundleText}

-- The fields of a locator and of an object.
abbrev pub locator_fields : Locator → Strings
locator_fields l = (l.name, (l.text, tt))

abbrev pub object_fields : Object → Strings
object_fields o = (o.uri, (o.octets, tt))

-- Those of a bundle's lists, and of a bundle.
abbrev pub entries_fields : Entries → Lists
entries_fields e = (e.locators.items, (e.objects.items, (e.verdicts.items, tt)))

abbrev pub parts_fields : Parts → BundleFields
parts_fields p = (number_of p.version, (p.moment, (p.depth, (p.version, entries_fields p.entries))))

abbrev pub parts_value : Parts → BundleValue
parts_value p = as_bundle (parts_fields p)

-- A bundle, and nothing after it.
abbrev pub IsBundleAlone : Mode → Trees → BundleValue × Unit {0} → Type 0
IsBundleAlone m = Then (IsBundle m) End

abbrev pub parts_alone : Parts → BundleValue × Unit {0}
parts_alone p = (parts_value p, tt)

-- What all octets of a source tell: a bundle, or that they are none's.
abbrev pub TellsBundle : {E : Type 0} → List ℕ → Result Parts (DecodeError E) → Type 0
TellsBundle octets (Ok parts) = BundleText octets (parts_value parts)
TellsBundle octets (Err e) = OnContent e ((b : BundleValue) → BundleText octets b → ⊥)
