-- Listed files, by their fields (RFC 9286 4.2).
use Rattle.std.specs.Prelude.{◌≡◌, ◌≢◌, ◌⊎◌, ℕ, List, [], ◌∷◌, length, All}
use Rattle.objects_cms.specs.bcder_tree.declared.mode.Mode.{Mode}
use Rattle.objects_cms.specs.bcder_tree.Strings.{IsDigit, IsLetter}
use Rattle.objects_cms.specs.bcder_tree.Tags.{universal, ia5_string_tag, sequence_tag}
use Rattle.objects_cms.specs.bcder_tree.Tree.{Tree, Trees}
use Rattle.objects_cms.specs.bcder_content.Grammar.{End, Inside, Many, OctetsOf, Then}
use Rattle.objects_cms.specs.bcder_content.Words.{Gathers}
use Rattle.objects_payload.specs.Manifests.{File, IsFile, IsFileName}

-- What stands in a name in front of its extension.
abbrev pub IsBaseOctet : ℕ → Type 0
IsBaseOctet c = IsLetter c ⊎ IsDigit c ⊎ (c ≡ 45) ⊎ (c ≡ 95)

pub record IsBase (octets : List ℕ) : Type 0 where
  pub some : octets ≢ []
  pub are : All IsBaseOctet octets

-- A dot and three letters.
pub record IsExtension (octets : List ℕ) : Type 0 where
  pub letters : List ℕ
  pub whole : octets ≡ 46 ∷ letters
  pub are : All IsLetter letters
  pub three : length letters ≡ 3

-- The content of a name, and of a hash in whole octets, which says first that no bit is unused (X.690 8.6.2.2).
pub record IsNameContent (content : List ℕ) (x : Unit {0}) : Type 0 where
  pub is : IsFileName content

pub record IsHashContent (content : List ℕ) (x : Unit {0}) : Type 0 where
  pub hash : List ℕ
  pub whole : content ≡ 0 ∷ hash

abbrev pub IsName : Tree → Unit {0} → Type 0
IsName = OctetsOf ia5_string_tag IsNameContent

abbrev pub IsHash : Tree → Unit {0} → Type 0
IsHash = OctetsOf (universal 3) IsHashContent

-- The fields of some file, in every mode.
abbrev pub EntryFields : Type 0
EntryFields = Unit {0} × (Unit {0} × Unit {0})

abbrev pub entry : Unit {0} → EntryFields
entry x = (tt, (tt, tt))

abbrev pub AreEntryFields : Mode → Trees → EntryFields → Type 0
AreEntryFields m = Then IsName (Then IsHash End)

-- Some file.
abbrev pub IsEntry : Tree → EntryFields → Type 0
IsEntry = Inside sequence_tag (Then IsName (Then IsHash End))

-- Files, one for each of a list, in every mode; and whatever files.
abbrev pub AreFiles : Mode → Trees → List File → Type 0
AreFiles m = Many IsFile

abbrev pub whatever : List EntryFields → Unit {0} → Type 0
whatever all x = Unit {0}

abbrev pub AreAny : Mode → Trees → Unit {0} → Type 0
AreAny m = Gathers IsEntry whatever
