-- The files of octets, one by one.
use Rattle.std.proofs.Common.{◌≡◌, Bool, true, false, Option, Some, None, ℕ, List, [], ◌∷◌, ◌++◌, inl, inr, refl, sym, ap, ◌∙◌, subst, append_assoc, append-nil, length, length-append, ◌<◌, ◌≤◌, ◌+◌, arith}
use Rattle.std.proofs.Math.Logic.{∥∥₁_elim, ∥∥₁_prop}
use Rattle.std.specs.Iterator.{YieldsFirst}
use Rattle.std.specs.Coded.{Coded-set, coded_bool, coded_list, coded_ℕ, le_prop}
use Rattle.objects_cms.specs.bcder_tree.declared.mode.Mode.{Mode}
use Rattle.objects_cms.specs.bcder_tree.declared.length.Length.TheVariants.{Definite as LengthIs, Indefinite as NoLength}
use Rattle.objects_cms.specs.bcder_tree.Octets.{IsIdentifier}
use Rattle.objects_cms.specs.bcder_tree.Tags.{TagValue, universal, ia5_string_tag, sequence_tag}
use Rattle.objects_cms.specs.bcder_tree.Tree.{IsHeader, IsPrimitive, Spells, SpellsAll, Tree, Trees, constructed, definite, indefinite, more, none, primitive}
use Rattle.objects_cms.specs.bcder_content.Grammar.{Many, ManyCases}
use Rattle.objects_cms.specs.bcder_content.Kept.{CapturedValue}
use Rattle.bcder_octets.specs.Pieces.{Holds, Mark, Marks, NextPiece, around, held, holds}
use Rattle.bcder_octets.proofs.of_bcder_content.Opening.{head_of}
use Rattle.bcder_octets.proofs.of_bcder_tree.Modes.{ber_header}
use Rattle.objects_payload.specs.Manifests.{File, IsFile}
use Rattle.objects_cms.specs.Listing.{Listing, SpellsFiles, file_code}
use Rattle.objects_cms.specs.Held.{HoldsFiles, Left, one_holds, pieces_of, same_left}

-- The values of a file.
abbrev file_trees : File → Trees
file_trees f = more (primitive ia5_string_tag f.name) (more (primitive (universal 3) (0 ∷ f.hash)) none)

shape : (t : Tree) (f : File) → IsFile t f → t ≡ constructed sequence_tag (file_trees f)
shape t f p =
    let all = p.is.is in
    let behind = all.rest in
    let hash = behind.is in
    let value = p.x.1.0 in
    let name : all.first ≡ primitive ia5_string_tag p.x.0 = all.is.is.is in
    let content : hash.is.content ≡ 0 ∷ value.octets = hash.is.is.whole ∙ ap (λ (n : ℕ). n ∷ value.octets) hash.meets in
    let second : behind.first ≡ primitive (universal 3) (0 ∷ value.octets) = hash.is.whole ∙ ap (primitive (universal 3)) content in
    let last : all.others ≡ more (primitive (universal 3) (0 ∷ value.octets)) none = behind.whole ∙ ap (λ (u : Tree). more u behind.others) second ∙ ap (more (primitive (universal 3) (0 ∷ value.octets))) behind.rest.ended in
    let values : p.is.values ≡ file_trees (record { name = p.x.0; hash = value.octets }) = all.whole ∙ ap (λ (u : Tree). more u all.others) name ∙ ap (more (primitive ia5_string_tag p.x.0)) last in
    p.is.whole ∙ ap (constructed sequence_tag) values ∙ ap (λ (g : File). constructed sequence_tag (file_trees g)) (sym p.means)

-- Octets that begin with these contents of primitive values, and then hold those of the others.
record Front (pieces : List (List ℕ)) (octets : List ℕ) (others : List Mark) : Type 0 where
  marks : List Mark
  is : Marks marks octets
  whole : held marks ≡ pieces ++ held others

plain_mark : {m : Mode} {t : TagValue} {c a : List ℕ} (rest : List ℕ) (others : List Mark) → IsPrimitive m a t c → Marks others rest → Marks (holds c ∷ others) (a ++ rest)
plain_mark {t = t} {c} {a} rest others p h = (p.header, rest, ap (λ (z : List ℕ). z ++ rest) p.whole ∙ append_assoc p.header c rest, (t, ber_header p.header_is), h)

fields_marks : (m : Mode) (f : File) (content rest : List ℕ) (others : List Mark) → SpellsAll m (file_trees f) content → Marks others rest → Marks (holds f.name ∷ holds (0 ∷ f.hash) ∷ others) (content ++ rest)
fields_marks m f content rest others s h =
    let last = s.3 in
    let b : s.1 ≡ last.0 = last.4 ∙ ap (λ (z : List ℕ). last.0 ++ z) last.3 ∙ append-nil last.0 in
    let e : content ++ rest ≡ s.0 ++ (last.0 ++ rest) = ap (λ (z : List ℕ). z ++ rest) (s.4 ∙ ap (λ (z : List ℕ). s.0 ++ z) b) ∙ append_assoc s.0 last.0 rest in
    subst (Marks (holds f.name ∷ holds (0 ∷ f.hash) ∷ others)) (sym e) (plain_mark (last.0 ++ rest) (holds (0 ∷ f.hash) ∷ others) s.2 (plain_mark rest others last.2 h))

file_front : (m : Mode) (f : File) (text rest : List ℕ) (others : List Mark) → Spells m (constructed sequence_tag (file_trees f)) text → Marks others rest → Front (f.name ∷ (0 ∷ f.hash) ∷ []) (text ++ rest) others
file_front m f text rest others s h = elim s.1 [
  | definite d header is whole ↦ record {
    marks = around ∷ holds f.name ∷ holds (0 ∷ f.hash) ∷ others;
    is = (header, s.0 ++ rest, ap (λ (z : List ℕ). z ++ rest) whole ∙ append_assoc header s.0 rest, inr (sequence_tag, LengthIs (length s.0), head_of (ber_header is)), fields_marks m f s.0 rest others s.2 h);
    whole = refl;
  }
  | indefinite d i tag_is is whole ↦ record {
    marks = around ∷ holds f.name ∷ holds (0 ∷ f.hash) ∷ around ∷ others;
    is = (
      i ++ (128 ∷ []),
      s.0 ++ (0 ∷ 0 ∷ rest),
      ap (λ (z : List ℕ). z ++ rest) whole ∙ append_assoc i (128 ∷ s.0 ++ (0 ∷ 0 ∷ [])) rest ∙ ap (λ (z : List ℕ). i ++ (128 ∷ z)) (append_assoc s.0 (0 ∷ 0 ∷ []) rest) ∙ sym (append_assoc i (128 ∷ []) (s.0 ++ (0 ∷ 0 ∷ rest))),
      inr (sequence_tag, NoLength, record { identifier = i; size = 128 ∷ []; whole = refl; tag = tag_is; identifier_is = is; size_is = refl }),
      fields_marks m f s.0 (0 ∷ 0 ∷ rest) (around ∷ others) s.2 (0 ∷ 0 ∷ [], rest, refl, inl refl, h),
    );
    whole = refl;
  }
]

list_front : (m : Mode) (ts : Trees) (text : List ℕ) (files : List File) → SpellsAll m ts text → ManyCases IsFile ts files → Front (pieces_of files) text []
list_front m ts text [] s e = record { marks = []; is = subst (λ (us : Trees). SpellsAll m us text) e s; whole = refl }
list_front m ts text (f ∷ files) s p =
    let cut = subst (λ (us : Trees). SpellsAll m us text) p.2 s in
    let behind = list_front m p.1 cut.1 files cut.3 p.4 in
    let first = file_front m f cut.0 cut.1 behind.marks (subst (λ (u : Tree). Spells m u cut.0) (shape p.0 f p.3) cut.2) behind.is in
    record {
      marks = first.marks;
      is = subst (Marks first.marks) (sym cut.4) first.is;
      whole = first.whole ∙ ap (λ (z : List (List ℕ)). f.name ∷ (0 ∷ f.hash) ∷ z) behind.whole;
    }

-- Octets that spell files hold their names and hashes.
pub spelled_held : (c : CapturedValue) (files : List File) → SpellsFiles c files → HoldsFiles files c.octets
spelled_held c files s =
    let f = list_front c.mode s.trees c.octets files s.spelled s.is.cases in
    record { marks = f.marks; is = f.is; whole = sym (f.whole ∙ append-nil (pieces_of files)) }

-- At the beginning all files of the list are left.
pub all_left : (c : CapturedValue) (x : Listing c) (octets : List ℕ) → octets ≡ c.octets → ∥ HoldsFiles x.0 octets ∥₁
all_left c x octets e = ∥∥₁_elim x.1 ∥∥₁_prop (λ s. ∣ subst (HoldsFiles x.0) (sym e) (spelled_held c x.0 s) ∣₁)

-- No piece is left: no file is.
pub no_files : (s : List ℕ) (x : Left s) → ((pieces : List (List ℕ)) → Holds pieces s → pieces ≡ []) → x.0 ≡ []
no_files s x over = at x.0 x.1
  where
    at : (files : List File) → ∥ HoldsFiles files s ∥₁ → files ≡ []
    at [] h = refl
    at (f ∷ files) h = ∥∥₁_elim h (Coded-set (coded_list file_code) _ _) (λ k. let e : pieces_of (f ∷ files) ≡ [] = over (pieces_of (f ∷ files)) k in absurd cc)

-- Two pieces were read: the name and the hash of the first file, and the others are left after them.
pub record NextFile (files : List File) (name content behind : List ℕ) : Type 0 where
  pub file : File
  pub others : List File
  pub whole : files ≡ file ∷ others
  pub name_is : name ≡ file.name
  pub content_is : content ≡ 0 ∷ file.hash
  pub left : ∥ HoldsFiles others behind ∥₁

-- A name is in front, with a hash after it.
record NameFirst (files : List File) (name mid : List ℕ) : Type 0 where
  file : File
  others : List File
  whole : files ≡ file ∷ others
  name_is : name ≡ file.name
  left : ∥ Holds ((0 ∷ file.hash) ∷ pieces_of others) mid ∥₁

name_first : (s name mid : List ℕ) (x : Left s) → ((pieces : List (List ℕ)) → Holds pieces s → NextPiece pieces name mid) → NameFirst x.0 name mid
name_first s name mid x first = at x.0 x.1
  where
    at : (files : List File) → ∥ HoldsFiles files s ∥₁ → NameFirst files name mid
    at [] h =
        let wrong : true ≡ false = ∥∥₁_elim h (Coded-set coded_bool _ _) (λ k. let e : [] ≡ name ∷ (first [] k).others = (first [] k).whole in absurd cc) in
        absurd cc
    at (f ∷ files) h =
        let pieces = (0 ∷ f.hash) ∷ pieces_of files in
        record {
          file = f;
          others = files;
          whole = refl;
          name_is = ∥∥₁_elim h (Coded-set (coded_list coded_ℕ) _ _) (λ k. let e : f.name ∷ pieces ≡ name ∷ (first (f.name ∷ pieces) k).others = (first (f.name ∷ pieces) k).whole in cc);
          left = ∥∥₁_elim h ∥∥₁_prop (λ k.
              let n = first (f.name ∷ pieces) k in
              let e : f.name ∷ pieces ≡ name ∷ n.others = n.whole in
              let same : n.others ≡ pieces = cc in
              ∣ subst (λ (z : List (List ℕ)). Holds z mid) same n.holds_others ∣₁);
        }

pub next_file : (s name mid content behind : List ℕ) (x : Left s) → ((pieces : List (List ℕ)) → Holds pieces s → NextPiece pieces name mid) → ((pieces : List (List ℕ)) → Holds pieces mid → NextPiece pieces content behind)
    → NextFile x.0 name content behind
next_file s name mid content behind x first second =
    let n = name_first s name mid x first in
    let pieces = (0 ∷ n.file.hash) ∷ pieces_of n.others in
    record {
      file = n.file;
      others = n.others;
      whole = n.whole;
      name_is = n.name_is;
      content_is = ∥∥₁_elim n.left (Coded-set (coded_list coded_ℕ) _ _) (λ k. let e : pieces ≡ content ∷ (second pieces k).others = (second pieces k).whole in cc);
      left = ∥∥₁_elim n.left ∥∥₁_prop (λ k.
          let m = second pieces k in
          let e : pieces ≡ content ∷ m.others = m.whole in
          let same : m.others ≡ pieces_of n.others = cc in
          ∣ subst (λ (z : List (List ℕ)). Holds z behind) same m.holds_others ∣₁);
    }

-- After a name a hash is left.
pub hash_left : (s name mid : List ℕ) (x : Left s) → ((pieces : List (List ℕ)) → Holds pieces s → NextPiece pieces name mid) → ((pieces : List (List ℕ)) → Holds pieces mid → pieces ≡ []) → ⊥
hash_left s name mid x first over =
    let n = name_first s name mid x first in
    let wrong : true ≡ false = ∥∥₁_elim n.left (Coded-set coded_bool _ _) (λ k. let e : (0 ∷ n.file.hash) ∷ pieces_of n.others ≡ [] = over ((0 ∷ n.file.hash) ∷ pieces_of n.others) k in absurd cc) in
    absurd cc

header_some : {m : Mode} {h : List ℕ} {k : Bool} {t : TagValue} {n : ℕ} → IsHeader m h k t n → 0 < length h
header_some {k = k} {t} h = at h.identifier h.identifier_is (ap length h.whole ∙ length-append h.identifier h.size)
  where
    at : {n : ℕ} (i : List ℕ) → IsIdentifier i k t → n ≡ length i + length h.size → 0 < n
    at [] p e = absurd p
    at (a ∷ i) p e = omega arith

-- No octets are of no file, and no file is of no octets.
pub empty_list : (c : CapturedValue) (x : Listing c) → c.octets ≡ [] → x.0 ≡ []
empty_list c x e = no_files c.octets (x.0, all_left c x c.octets refl) (λ pieces h. no_pieces pieces h)
  where
    no_pieces : (pieces : List (List ℕ)) → Holds pieces c.octets → pieces ≡ []
    no_pieces pieces h = one_holds c.octets pieces [] h (record { marks = []; is = e; whole = refl })

all_none : (c : CapturedValue) (files : List File) → SpellsFiles c files → files ≡ [] → c.octets ≡ []
all_none c files s e =
    let left : Many IsFile s.trees [] = subst (Many IsFile s.trees) e s.is in
    subst (λ (ts : Trees). SpellsAll c.mode ts c.octets) left.cases s.spelled

pub list_empty : (c : CapturedValue) (x : Listing c) → x.0 ≡ [] → c.octets ≡ []
list_empty c x e = ∥∥₁_elim x.1 (Coded-set (coded_list coded_ℕ) _ _) (λ s. all_none c x.0 s e)

pub no_length : (o : List ℕ) → length o ≡ 0 → o ≡ []
no_length [] e = refl
no_length (a ∷ o) e = absurd (omega arith)

-- Where no file is left none comes.
pub none_yields : {A : Type 0} {now : List A} (r : Option A) → r ≡ None → now ≡ [] → YieldsFirst (λ (s : List A). s) now r now
none_yields None e h = (h, h)
none_yields (Some x) e h = absurd cc

-- Files that are left are those that the octets hold.
pub listed_left : (octets : List ℕ) (l files : List File) → ∥ HoldsFiles l octets ∥₁ → ∥ HoldsFiles files octets ∥₁ → l ≡ files
listed_left octets l files h k = same_left octets (l, h) (files, k)

-- The first file was lent, and the others are left.
pub file_steps : {now files : List File} {name content behind hash : List ℕ} {unused : ℕ} {f : File} (l : List File) → ∥ HoldsFiles l behind ∥₁ → files ≡ now → NextFile files name content behind → content ≡ unused ∷ hash
    → f ≡ record { name = name; hash = hash } → now ≡ f ∷ l
file_steps {now} {files} {name} {content} {behind} {hash} {unused} {f} l h same n cut made =
    let both : unused ∷ hash ≡ 0 ∷ n.file.hash = sym cut ∙ n.content_is in
    let hash_is : hash ≡ n.file.hash = cc in
    let name_is : name ≡ n.file.name = n.name_is in
    let file : f ≡ n.file = made ∙ (λ i. record { name = name_is i; hash = hash_is i }) in
    let left : n.others ≡ l = listed_left behind n.others l n.left h in
    sym same ∙ n.whole ∙ ap (λ (z : List File). n.file ∷ z) left ∙ ap (λ (z : File). z ∷ l) (sym file)

-- Octets hold fewer files than they are.
held_few : (marks : List Mark) (s : List ℕ) → Marks marks s → length (held marks) ≤ length s
held_few [] s m = omega arith
held_few (holds content ∷ marks) s m =
    let some : 0 < length m.0 = header_some m.3.1 in
    omega (arith, held_few marks m.1 m.4, some, ap length m.2, length-append m.0 (content ++ m.1), length-append content m.1)
held_few (around ∷ marks) s m = omega (arith, held_few marks m.1 m.4, ap length m.2, length-append m.0 m.1)

pieces_long : (files : List File) → length files ≤ length (pieces_of files)
pieces_long [] = omega arith
pieces_long (f ∷ files) = omega (arith, pieces_long files)

held_bound : (files : List File) (s : List ℕ) → HoldsFiles files s → length files ≤ length s
held_bound files s h = omega (arith, pieces_long files, ap length h.whole, held_few h.marks s h.is)

pub files_few : (c : CapturedValue) (x : Listing c) → length x.0 ≤ length c.octets
files_few c x = ∥∥₁_elim x.1 le_prop (λ s. held_bound x.0 c.octets (spelled_held c x.0 s))
