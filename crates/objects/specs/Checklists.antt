-- Signed checklists (RFC 9323).
use Rattle.std.specs.Prelude.{◌≢◌, ℕ, Bool, List, [], ◌∷◌, ◌++◌, Option}
use Rattle.objects_payload.specs.bcder.Restricted.{IsRestricted}
use Rattle.objects_payload.specs.bcder.Sets.{alone}
use Rattle.objects_payload.specs.bcder_content.Grammar.{As, End, Inside, Many, Opt, Where, Then}
use Rattle.objects_payload.specs.bcder_tree.declared.mode.Mode.{Mode}
use Rattle.objects_payload.specs.bcder_tree.declared.mode.Mode.TheVariants.{Der}
use Rattle.objects_payload.specs.bcder_tree.Strings.{IsIa5, IsOctetString}
use Rattle.objects_payload.specs.bcder_tree.Tags.{ia5_string_tag, sequence_tag}
use Rattle.objects_payload.specs.bcder_tree.Tree.{Tree, Trees}
use Rattle.objects_payload.specs.Contents.{ReadsAs, VersionZero}
use Rattle.objects_payload.specs.Identifiers.{IsDigestAlgorithm, rsadsi}
use Rattle.objects_payload.specs.ObjectText.{Object}
use Rattle.objects_valid.specs.Stated.{IsStated, Stated}
use Rattle.objects_valid.specs.declared.stated.AsForm.TheVariants.{Identifiers}

-- id-ct-signedChecklist, 1.2.840.113549.1.9.16.1.48 (RFC 9323 3)
abbrev pub signed_checklist : List ℕ
signed_checklist = rsadsi ++ 9 ∷ 16 ∷ 1 ∷ 48 ∷ []

-- A file that is checked: its name, where one is given, and the octets of its digest (RFC 9323 4.4).
pub record CheckedFile : Type 0 where
  pub name : Option (List ℕ)
  pub hash : List ℕ

-- FileNameAndHash ::= SEQUENCE { fileName IA5String OPTIONAL, hash OCTET STRING } (RFC 9323 4.4)
abbrev pub EntryFields : Type 0
EntryFields = Option (List ℕ) × (List ℕ × Unit {0})

abbrev pub AreEntryFields : Mode → Trees → EntryFields → Type 0
AreEntryFields m =
    Opt ia5_string_tag (IsRestricted IsIa5 alone m ia5_string_tag)
    (Then (IsOctetString m)
    End)

abbrev pub file_of : EntryFields → CheckedFile
file_of f = record { name = f.0; hash = f.1.0 }

abbrev pub IsCheckedFile : Mode → Tree → CheckedFile → Type 0
IsCheckedFile m = As (Inside sequence_tag (AreEntryFields m)) file_of

-- SEQUENCE (SIZE (1..MAX)) OF FileNameAndHash (RFC 9323 4.4)
abbrev pub AreSome : List CheckedFile → Type 0
AreSome files = files ≢ []

abbrev pub AreCheckedFiles : Mode → Tree → List CheckedFile → Type 0
AreCheckedFiles m = Where (Inside sequence_tag (Many (IsCheckedFile m))) AreSome

-- What a checklist says: by whose resources, and of which files.
pub record Checklist : Type 0 where
  pub resources : Stated
  pub files : List CheckedFile

abbrev pub Fields : Type 0
Fields = Option (Unit {0} × Unit {0}) × (Stated × (Unit {0} × (List CheckedFile × Unit {0})))

abbrev pub AreFields : Mode → Trees → Fields → Type 0
AreFields m =
    VersionZero (Then (IsStated Identifiers m)
    (Then IsDigestAlgorithm (Then (AreCheckedFiles m) End)))

abbrev pub checklist_of : Fields → Checklist
checklist_of f = record { resources = f.1.0; files = f.1.1.1.0 }

-- RpkiSignedChecklist ::= SEQUENCE { version [0] INTEGER DEFAULT 0, resources ResourceBlock, digestAlgorithm
-- DigestAlgorithmIdentifier, checkList SEQUENCE (SIZE (1..MAX)) OF FileNameAndHash } (RFC 9323 4)
abbrev pub IsChecklist : Mode → Tree → Checklist → Type 0
IsChecklist m = As (Inside sequence_tag (AreFields m)) checklist_of

-- A signed object that is a checklist; its content is DER in both modes (RFC 9323 3, RFC 6488 2.1.3.2).
abbrev pub ChecklistText : Bool → List ℕ → Object → Checklist → Type 0
ChecklistText = ReadsAs signed_checklist (IsChecklist Der)
