-- Checklists, by what is read of them.
use Rattle.std.specs.Prelude.{List, map}
use Rattle.std.specs.Option.{option_map}
use Rattle.objects_payload.specs.bcder_content.Grammar.{End, Many, Then}
use Rattle.objects_payload.specs.bcder_tree.declared.mode.Mode.{Mode}
use Rattle.objects_payload.specs.bcder_tree.Tree.{Trees}
use Rattle.objects_payload.specs.Fields.{alone}
use Rattle.objects_payload.specs.Identifiers.{IsDigestAlgorithm}
use Rattle.objects.specs.declared.rsc.checklist.entry.Entry.{Entry}
use Rattle.objects.specs.declared.rsc.checklist.content.Parts.{Parts}
use Rattle.objects.specs.Checklists.{AreCheckedFiles, CheckedFile, EntryFields, Fields, IsCheckedFile, file_of}

-- What is read of an entry, as the grammar names it.
abbrev pub entry_fields : Entry → EntryFields
entry_fields e = (e.name, (e.hash, tt))

abbrev pub checked : Entry → CheckedFile
checked e = file_of (entry_fields e)

-- Entries, which are all of a content.
abbrev pub AreEntries : Mode → Trees → List CheckedFile → Type 0
AreEntries m = Many (IsCheckedFile m)

-- What stands behind the resources.
abbrev pub BehindFields : Type 0
BehindFields = Unit {0} × (List CheckedFile × Unit {0})

abbrev pub AreBehind : Mode → Trees → BehindFields → Type 0
AreBehind m = Then IsDigestAlgorithm (Then (AreCheckedFiles m) End)

abbrev pub behind_fields : List CheckedFile → BehindFields
behind_fields files = (tt, (files, tt))

-- All that is read.
abbrev pub parts_fields : Parts → Fields
parts_fields p =
    (option_map alone p.version, (p.resources, behind_fields (map checked p.files.items)))
