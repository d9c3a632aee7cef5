-- Names that are written and read again, and what inspection says of the name that is made from a key's identifier.
use Rattle.std.proofs.Common.{◌≡◌, ℕ, ◌<◌, ◌≤◌, ◌/◌, ◌%◌, inl, inr, Bool, List, [], ◌∷◌, ◌++◌, refl, ap, ◌∙◌, subst, arith}
use Rattle.std.specs.Prelude.{All, codes, slice_index}
use Rattle.std.proofs.lemmas.List.Elements.{All-cons, All-get_or, All-head, All-nil, All-tail}
use Rattle.certs_name.specs.bcder_tree.declared.mode.Mode.{Mode}
use Rattle.certs_name.specs.bcder_tree.declared.mode.Mode.TheVariants.{Der}
use Rattle.certs_name.specs.bcder_tree.Front.{Front}
use Rattle.certs_name.specs.bcder_tree.Strings.{IsPrintable}
use Rattle.certs_name.specs.bcder_tree.Tree.{Tree, Trees, none, more, Spells, SpellsAll}
use Rattle.certs_name.proofs.of_bcder_tree.Fronts.{front_whole}
use Rattle.certs_name.proofs.of_bcder_tree.Trees.{one_fields}
use Rattle.certs_name.specs.bcder.Sets.{alone}
use Rattle.certs_name.specs.bcder.Texts.{IsText}
use Rattle.certs_name.proofs.of_bcder.Ascii.{ascii_text}
use Rattle.certs_name.specs.bcder_content.Grammar.{End, Then}
use Rattle.certs_name.specs.bcder_content.Kept.{CapturedValue}
use Rattle.certs_name.specs.bcder_values.Captures.{CapturedText, captured_spelled}
use Rattle.certs_name.specs.bcder_values.Returns.{ReadAgain}
use Rattle.certs_name.specs.bcder_values.Wraps.{one_spelled}
use Rattle.certs_name.proofs.of_bcder_values.Returning.{read_again}
use Rattle.certs_basics.specs.Names.{Attribute, IsKeptName, NameSays, IsRpkiName, hex_text, subject_of}
use Rattle.certs_name.specs.Named.{IsNamed}
use Rattle.certs_name.proofs.KeyNames.{is_name, key_attribute}

-- The only value of octets.
only_spelled : (m : Mode) (t : Tree) (text : List ℕ) → SpellsAll m (more t none) text → Spells m t text
only_spelled m t text h =
    let front : Front m text t [] = record { text = h.0; spelled = h.2; whole = h.4 ∙ ap (λ (v : List ℕ). h.0 ++ v) h.3 } in
    front_whole front

-- What was kept in one mode and is written in another spells the same value.
spelled_in : (n : CapturedValue) (m : Mode) (text : List ℕ) (t : Tree) → CapturedText n m text → Spells n.mode t n.octets → SpellsAll m (more t none) text
spelled_in n m text t w own =
    let s = captured_spelled n m text w in
    let same : s.trees ≡ more t none = one_fields {m = n.mode} {p = n.mode} (record { spelled = s.is.spelled }) (record { spelled = one_spelled n.mode t n.octets own }) in
    subst (λ (ts : Trees). SpellsAll m ts text) same s.spelled

pub name_again : (n : CapturedValue) (m : Mode) (text : List ℕ) → IsNamed n → CapturedText n m text → ReadAgain m (λ ts. Then (IsKeptName m) End ts (record { mode = m; octets = text }, tt)) text
name_again n m text named w =
    let t = named.says.tree in
    let all = spelled_in n m text t w named.says.spelled in
    read_again m text (record {
      trees = more t none;
      is = record {
        first = t;
        others = none;
        whole = refl;
        is = record { mode = refl; spelled = only_spelled m t text all; all = named.all; is = named.says.is };
        rest = record { ended = refl };
      };
      spelled = all;
    })

pub inspected_again : (n : CapturedValue) (m : Mode) (text : List ℕ) (strict : Bool) → CapturedText n m text → IsRpkiName strict n → IsRpkiName strict (record { mode = m; octets = text })
inspected_again n m text strict w r = record {
  all = r.all;
  says = record { tree = r.says.tree; spelled = only_spelled m r.says.tree text (spelled_in n m text r.says.tree w r.says.spelled); is = r.says.is };
  are = r.are;
}

-- Equal octets spell one value, in whatever modes.
pub same_attributes : (a b : CapturedValue) (all : List Attribute) → IsNamed b → a.octets ≡ b.octets → NameSays a all → NameSays b all
same_attributes a b all named e says =
    let other = named.says.tree in
    let same : more other none ≡ more says.tree none = one_fields {m = b.mode} {p = a.mode} (record { spelled = one_spelled b.mode other b.octets named.says.spelled })
    (record { spelled = subst (λ (o : List ℕ). SpellsAll a.mode (more says.tree none) o) e (one_spelled a.mode says.tree a.octets says.spelled) }) in
    let tree : other ≡ says.tree = cc in
    record { tree = says.tree; spelled = subst (λ (t : Tree). Spells b.mode t b.octets) tree named.says.spelled; is = says.is }

-- Hexadecimal digits are printable.

abbrev hex_digits : List ℕ
hex_digits = codes "0123456789abcdef"

number_printable : (c : ℕ) → 48 ≤ c → c ≤ 57 → IsPrintable c
number_printable c a b = inr (inl (a, b))

letter_printable : (c : ℕ) → 97 ≤ c → c ≤ 122 → IsPrintable c
letter_printable c a b = inl (inr (a, b))

abbrev EachPrintable : List ℕ → Type 0
EachPrintable [] = Unit {0}
EachPrintable (c ∷ v) = IsPrintable c × EachPrintable v

all_printable : (v : List ℕ) → EachPrintable v → All IsPrintable v
all_printable [] h = All-nil IsPrintable
all_printable (c ∷ v) h = All-cons IsPrintable c v h.0 (all_printable v h.1)

letters_printable : EachPrintable (97 ∷ 98 ∷ 99 ∷ 100 ∷ 101 ∷ 102 ∷ [])
letters_printable = (letter_printable 97 (omega arith) (omega arith), (letter_printable 98 (omega arith) (omega arith), (letter_printable 99 (omega arith) (omega arith), (letter_printable 100 (omega arith) (omega arith), (letter_printable 101 (omega arith) (omega arith), (letter_printable 102 (omega arith) (omega arith), tt))))))

digits_printable : All IsPrintable hex_digits
digits_printable = all_printable hex_digits (number_printable 48 (omega arith) (omega arith), (number_printable 49 (omega arith) (omega arith), (number_printable 50 (omega arith) (omega arith), (number_printable 51 (omega arith) (omega arith), (number_printable 52 (omega arith) (omega arith), (number_printable 53 (omega arith) (omega arith), (number_printable 54 (omega arith) (omega arith), (number_printable 55 (omega arith) (omega arith), (number_printable 56 (omega arith) (omega arith), (number_printable 57 (omega arith) (omega arith), letters_printable))))))))))

digit_printable : (i : ℕ) → i < 16 → IsPrintable (slice_index hex_digits i)
digit_printable i small = All-get_or IsPrintable hex_digits i 0 small digits_printable

hex_printable : (v : List ℕ) → All (λ a. a < 256) v → All IsPrintable (hex_text v)
hex_printable [] h = All-nil IsPrintable
hex_printable (a ∷ v) h =
    let below : a < 256 = All-head (λ a. a < 256) a v h in
    let rest = hex_printable v (All-tail (λ a. a < 256) a v h) in
    All-cons IsPrintable (slice_index hex_digits (a / 16)) (slice_index hex_digits (a % 16) ∷ hex_text v) (digit_printable (a / 16) (omega arith))
    (All-cons IsPrintable (slice_index hex_digits (a % 16)) (hex_text v) (digit_printable (a % 16) (omega arith)) rest)

hex_is_text : (v : List ℕ) → All (λ a. a < 256) v → IsText IsPrintable alone (hex_text v)
hex_is_text v h = (ascii_text IsPrintable (hex_text v)).1 (hex_printable v h)

pub key_name_passes : (v octets : List ℕ) (strict : Bool) → All (λ a. a < 256) v → Spells Der (subject_of v) octets → IsRpkiName strict (record { mode = Der; octets = octets })
key_name_passes v octets strict h s = record {
  all = key_attribute v ∷ [];
  says = record { tree = subject_of v; spelled = s; is = is_name v };
  are = record { kind_is = refl; text = hex_text v; value_is = inl (record { is = refl; meets = hex_is_text v h }) };
}
