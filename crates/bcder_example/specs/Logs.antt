-- The grammar of logs.
use Rattle.std.specs.Prelude.{ℕ, List, Option, map}
use Rattle.bcder_example.specs.bcder_tree.declared.mode.Mode.{Mode}
use Rattle.bcder_example.specs.bcder_tree.Tags.{integer_tag, sequence_tag}
use Rattle.bcder_example.specs.bcder_tree.Tree.{Tree, Trees}
use Rattle.bcder_example.specs.bcder_content.Grammar.{Inside, End, Then, Opt, Many}
use Rattle.bcder_example.specs.declared.lists.Entry.{Entry}
use Rattle.bcder_example.specs.declared.lists.Log.{Log}
use Rattle.bcder_example.specs.Versions.{IsSmall, Numbers}

-- Entry ::= SEQUENCE { kind INTEGER, size INTEGER }
abbrev pub entry_fields : Entry → Numbers
entry_fields e = (e.kind, (e.size, tt))

abbrev pub IsEntryBody : Mode → Trees → Numbers → Type 0
IsEntryBody m = Then IsSmall (Then IsSmall End)

abbrev pub IsEntry : Tree → Numbers → Type 0
IsEntry = Inside sequence_tag (Then IsSmall (Then IsSmall End))

-- SEQUENCE OF Entry
abbrev pub AreEntries : Mode → Trees → List Numbers → Type 0
AreEntries m = Many IsEntry

-- Log ::= SEQUENCE { most INTEGER OPTIONAL, entries SEQUENCE OF Entry }
abbrev pub LogFields : Type 0
LogFields = Option ℕ × (List Numbers × Unit {0})

abbrev pub log_fields : Log → LogFields
log_fields l = (l.most, (map entry_fields l.entries.items, tt))

abbrev pub IsLogBody : Mode → Trees → LogFields → Type 0
IsLogBody m = Opt integer_tag IsSmall (Then (Inside sequence_tag (AreEntries m)) End)
