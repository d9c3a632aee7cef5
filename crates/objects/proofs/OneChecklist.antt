-- That a value is one checklist at most, part by part.
use Rattle.std.proofs.Common.{◌≡◌, true, false, Bool, refl, sym, ◌∙◌}
use Rattle.std.specs.Prelude.{◌↔◌, IsTrue}
use Rattle.objects_payload.proofs.of_bcder_content.Simple.{unit_one}
use Rattle.objects_payload.proofs.of_bcder_content.Unique.{as_one, as_tagged, end_one, inside_one, inside_tagged, many_one, octets_one, opt_one, such_one, such_tagged, then_one}
use Rattle.objects_payload.proofs.of_certs_basics.Values.{string_one}
use Rattle.objects_payload.specs.bcder.Kinds.{string_tagged}
use Rattle.objects_payload.specs.bcder.Restricted.{IsRestricted}
use Rattle.objects_payload.specs.bcder.Sets.{alone}
use Rattle.objects_payload.specs.bcder_content.Grammar.{Inside, Many, One, Tagged}
use Rattle.objects_payload.specs.bcder_tree.declared.mode.Mode.{Mode}
use Rattle.objects_payload.specs.bcder_tree.Strings.{IsIa5, octet_string_tag}
use Rattle.objects_payload.specs.bcder_tree.Tags.{ia5_string_tag, sequence_tag}
use Rattle.objects_payload.specs.Identifiers.{IsDigestAlgorithm}
use Rattle.objects_valid.proofs.Parts.{stated_one}
use Rattle.objects_valid.specs.declared.stated.AsForm.TheVariants.{Identifiers}
use Rattle.objects.specs.Checklists.{IsCheckedFile, IsChecklist}

-- What a test decides isn't so where it says no.
pub said_no : {b : Bool} {P : Type 0} → (IsTrue b ↔ P) → b ≡ false → P → ⊥
said_no told turned p = let e : true ≡ false = sym (told.1 p) ∙ turned in absurd cc

-- A name has the tag of an IA5String.
pub name_tagged : (m : Mode) → Tagged ia5_string_tag (IsRestricted IsIa5 alone m ia5_string_tag)
name_tagged m = such_tagged (record { tagged = λ t x p. string_tagged m ia5_string_tag t x p })

-- An entry has the tag of a SEQUENCE.
pub entry_tagged : (m : Mode) → Tagged sequence_tag (IsCheckedFile m)
entry_tagged m = as_tagged (inside_tagged _ _)

-- A value is one file at most, and one list of files.
pub file_one : (m : Mode) → One (IsCheckedFile m)
file_one m = as_one (inside_one (opt_one (name_tagged m) (such_one (string_one m ia5_string_tag)) (then_one (string_one m octet_string_tag) end_one)))

pub list_one : (m : Mode) → One (Inside sequence_tag (Many (IsCheckedFile m)))
list_one m = inside_one (many_one (file_one m))

digest_one : One IsDigestAlgorithm
digest_one = record { one = λ t x y p q. refl }

-- A value is one checklist at most.
pub checklist_one : (m : Mode) → One (IsChecklist m)
checklist_one m =
    as_one (inside_one (opt_one (inside_tagged _ _) (inside_one (then_one (octets_one unit_one) end_one))
    (then_one (stated_one Identifiers m) (then_one digest_one (then_one (such_one (list_one m)) end_one)))))
