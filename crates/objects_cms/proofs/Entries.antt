-- Files, and values that are some file.
use Rattle.std.proofs.Common.{◌≡◌, inl, inr, ℕ, List, [], ◌∷◌, refl, sym, ap, ◌∙◌, subst, arith}
use Rattle.std.specs.Prelude.{All}
use Rattle.std.proofs.lemmas.List.Elements.{All-append, All-cons, All-weaker}
use native.Mathlib.Nat.{mod-one}
use Rattle.objects_cms.specs.bcder_tree.declared.mode.Mode.TheVariants.{Der}
use Rattle.objects_cms.specs.bcder_tree.Tags.{sequence_tag}
use Rattle.objects_cms.specs.bcder_tree.Tree.{Tree, Trees}
use Rattle.objects_cms.specs.bcder_tree.Strings.{IsIa5, IsLetter}
use Rattle.objects_cms.specs.bcder_octets.Bits.{BitsValue}
use Rattle.objects_cms.specs.bcder_octets.BitContents.{IsBitString, last_octet}
use Rattle.objects_cms.specs.bcder_content.Grammar.{Many, ManyCases, One, Tagged}
use Rattle.certs_key.proofs.of_bcder.Ascii.{ascii_text}
use Rattle.objects_cms.proofs.of_bcder_content.Simple.{unit_one}
use Rattle.objects_cms.proofs.of_bcder_content.Unique.{end_one, inside_one, inside_tagged, octets_one, then_one}
use Rattle.objects_payload.specs.Manifests.{File, IsFile, IsFileName}
use Rattle.objects_cms.specs.Files.{EntryFields, IsBaseOctet, IsEntry, entry}

pub entry_one : One IsEntry
entry_one = inside_one (then_one (octets_one unit_one) (then_one (octets_one unit_one) end_one))

pub entry_tagged : Tagged sequence_tag IsEntry
entry_tagged = inside_tagged _ _

-- A file is such a value.
pub file_entry : (t : Tree) (f : File) → IsFile t f → IsEntry t (entry tt)
file_entry t f p =
    let all = p.is.is in
    let name = all.is in
    let behind = all.rest in
    let hash = behind.is in
    record {
      values = p.is.values;
      whole = p.is.whole;
      is = record {
        first = all.first;
        others = all.others;
        whole = all.whole;
        is = record { content = p.x.0; whole = name.is.is; is = record { is = name.meets } };
        rest = record {
          first = behind.first;
          others = behind.others;
          whole = behind.whole;
          is = record { content = hash.is.content; whole = hash.is.whole; is = record { hash = p.x.1.0.octets; whole = hash.is.is.whole ∙ ap (λ (n : ℕ). n ∷ p.x.1.0.octets) hash.meets } };
          rest = behind.rest;
        };
      };
    }

-- Octets of names are those of an IA5String.
letter_ia5 : (c : ℕ) → IsLetter c → IsIa5 c
letter_ia5 c (inl h) = omega arith
letter_ia5 c (inr h) = omega arith

pub base_ia5 : (c : ℕ) → IsBaseOctet c → IsIa5 c
base_ia5 c h = elim h [
  | inl l ↦ letter_ia5 c l
  | inr r ↦ elim r [
    | inl d ↦ omega arith
    | inr s ↦ elim s [
      | inl e ↦ omega arith
      | inr e ↦ omega arith
    ]
  ]
]

name_ia5 : (name : List ℕ) → IsFileName name → All IsIa5 name
name_ia5 name n =
    subst (All IsIa5) (sym n.whole)
    (All-append IsIa5 n.base (46 ∷ n.extension)
    (All-weaker IsBaseOctet IsIa5 base_ia5 n.base n.base_is)
    (All-cons IsIa5 46 n.extension (omega arith) (All-weaker IsLetter IsIa5 letter_ia5 n.extension n.extension_is)))

abbrev bits_of : List ℕ → BitsValue
bits_of hash = record { unused = 0; octets = hash }

whole_bits : (content hash : List ℕ) → content ≡ 0 ∷ hash → IsBitString Der content (bits_of hash)
whole_bits content hash e = record { whole = e; lawful = record { few = omega arith; none = λ h. refl }; padded = mod-one (last_octet hash); short = tt }

-- And such a value is a file.
pub record SomeFile (t : Tree) : Type 0 where
  pub file : File
  pub is : IsFile t file

pub some_file : (t : Tree) (x : EntryFields) → IsEntry t x → SomeFile t
some_file t x p =
    let all = p.is in
    let name = all.is in
    let behind = all.rest in
    let hash = behind.is in
    record {
      file = record { name = name.content; hash = hash.is.hash };
      is = record {
        x = (name.content, (bits_of hash.is.hash, tt));
        is = record {
          values = p.values;
          whole = p.whole;
          is = record {
            first = all.first;
            others = all.others;
            whole = all.whole;
            is = record { is = record { is = name.whole; meets = (ascii_text IsIa5 name.content).1 (name_ia5 name.content name.is.is) }; meets = name.is.is };
            rest = record {
              first = behind.first;
              others = behind.others;
              whole = behind.whole;
              is = record { is = record { content = hash.content; whole = hash.whole; is = whole_bits hash.content hash.is.hash hash.is.whole }; meets = refl };
              rest = behind.rest;
            };
          };
        };
        means = refl;
      };
    }

-- So lists of files are lists of such values.
pub record SomeFiles (ts : Trees) : Type 0 where
  pub files : List File
  pub are : Many IsFile ts files

files_cases : (ts : Trees) (xs : List EntryFields) → ManyCases IsEntry ts xs → SomeFiles ts
files_cases ts [] e = record { files = []; are = record { cases = e } }
files_cases ts (x ∷ xs) p =
    let first = some_file p.0 x p.3 in
    let others = files_cases p.1 xs p.4 in
    record { files = first.file ∷ others.files; are = record { cases = (p.0, p.1, p.2, first.is, others.are.cases) } }

pub some_files : (ts : Trees) (xs : List EntryFields) → Many IsEntry ts xs → SomeFiles ts
some_files ts xs p = files_cases ts xs p.cases

pub record SomeEntries (ts : Trees) : Type 0 where
  pub entries : List EntryFields
  pub are : Many IsEntry ts entries

entries_cases : (ts : Trees) (fs : List File) → ManyCases IsFile ts fs → SomeEntries ts
entries_cases ts [] e = record { entries = []; are = record { cases = e } }
entries_cases ts (f ∷ fs) p =
    let others = entries_cases p.1 fs p.4 in
    record { entries = entry tt ∷ others.entries; are = record { cases = (p.0, p.1, p.2, file_entry p.0 f p.3, others.are.cases) } }

pub some_entries : (ts : Trees) (fs : List File) → Many IsFile ts fs → SomeEntries ts
some_entries ts fs p = entries_cases ts fs p.cases
