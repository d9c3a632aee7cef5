-- What is written of an extension is one, whose octets have the value in front.
use Rattle.std.proofs.Common.{◌≡◌, ℕ, Bool, true, false, List, [], ◌++◌, refl, sym, ap, ◌∙◌, subst, append-nil, arith}
use Rattle.std.specs.Option.{unwrap_or}
use Rattle.certs.specs.bcder_tree.declared.mode.Mode.TheVariants.{Der}
use Rattle.certs.specs.bcder_tree.Strings.{octet_string_tag}
use Rattle.certs.specs.bcder_tree.Tags.{TagValue, boolean_tag, sequence_tag}
use Rattle.certs.specs.bcder_tree.Tree.{Spells, SpellsAll, Tree, Trees, constructed, more, none}
use Rattle.certs.specs.bcder_content.Texts.{ReadsFront}
use Rattle.certs.specs.bcder.Identifiers.{IsIdentifier}
use Rattle.certs.specs.bcder.Kinds.{boolean, octets, oid}
use Rattle.certs.specs.bcder_octets.Wrapping.{IsAround}
use Rattle.certs.specs.bcder_octets.Segments.{StringTrees}
use Rattle.certs.specs.bcder_values.Forms.{Forms, both, last}
use Rattle.certs.specs.bcder_values.OptionalForms.{Apart, LawfulOption, default}
use Rattle.certs.specs.certs_extension.Extensions.{Extension, ExtensionFields, IsExtension}
use Rattle.certs.specs.Outputs.{IsReadAs, Output}
use Rattle.certs.specs.Values.{extension, shown}

abbrev pub raw : List ℕ → Bool → List ℕ → Extension
raw kind critical value = record { kind = kind; critical = critical; octets = value }

-- One extension of that kind, whose octets have a value of Q in front.
pub record ReadsExtension {A : Type 0} (kind : List ℕ) (critical : Bool) (Q : Tree → A → Type 0) (x : A) (ts : Trees) : Type 0 where
  pub tree : Tree
  pub alone : ts ≡ more tree none
  pub value : List ℕ
  pub is : IsExtension Der tree (raw kind critical value)
  pub front : ReadsFront Q value x

-- Octets of all values, where these are one.
pub one_of_all : {t : Tree} {ts : Trees} (text : List ℕ) → ts ≡ more t none → SpellsAll Der ts text → Spells Der t text
one_of_all {t} text e s =
    let p = subst (λ (us : Trees). SpellsAll Der us text) e s in
    let whole : p.0 ≡ text = sym (p.4 ∙ ap (λ (v : List ℕ). p.0 ++ v) p.3 ∙ append-nil p.0) in
    subst (λ (v : List ℕ). Spells Der t v) whole p.2

-- What is written in DER is read of its front.
pub in_front : {A : Type 0} {Q : Tree → A → Type 0} {x : A} (o : Output) → IsReadAs Q x o → (text : List ℕ) → o.writes Der text → ReadsFront Q text x
in_front o reads text w =
    let s = o.spelled Der text w in
    let a = reads s.trees s.is in
    record { text = text; rest = []; whole = sym (append-nil text); is = record { tree = a.tree; is = a.is; spelled = one_of_all text a.alone s.spelled } }

pub told : (b : Bool) → unwrap_or (shown b) false ≡ b
told true = refl
told false = refl

pub shown_lawful : (b : Bool) → LawfulOption boolean.lawful (shown b)
shown_lawful true = tt
shown_lawful false = tt

abbrev body : Forms ExtensionFields
body = both oid (default boolean_tag boolean false shown (last octets))

apart : Apart boolean_tag boolean (last octets)
apart = record {
  is = λ t e. e;
  behind = λ e. let n : ◌≡◌ {A = ℕ} 1 4 = ap (λ (t : TagValue). t.number) e in omega (arith, n);
}

sound : body.sound
sound = (tt, (apart, (record { shows = told; same = λ m. refl }, (tt, tt))))

string_of : {P : List ℕ → Type 0} {ts : Trees} → (s : IsAround Der octet_string_tag P ts) → StringTrees Der octet_string_tag s.plain.content ts
string_of s = record { content = s.plain.content; is = record { same = refl }; whole = s.plain.whole }

pub extension_read : {A : Type 0} {Q : Tree → A → Type 0} {x : A} (kind : List ℕ) (critical : Bool) (o : Output) → IsIdentifier kind → IsReadAs Q x o
    → (ts : Trees) → (extension kind critical o).trees Der ts → ReadsExtension kind critical Q x ts
extension_read kind critical o identifies reads ts p =
    let behind = p.is.is_second in
    let string = behind.is_second in
    let value = string.plain.content in
    let fields = body.is_read sound (kind, (critical, (value, tt))) Der p.values (identifies, (shown_lawful critical, tt)) (record {
      first = p.is.first;
      second = p.is.second;
      is_first = p.is.is_first;
      is_second = record {
        first = behind.first;
        second = behind.second;
        is_first = behind.is_first;
        is_second = string_of string;
        whole = behind.whole;
      };
      whole = p.is.whole;
    }) in
    record {
      tree = constructed sequence_tag p.values;
      alone = p.whole;
      value = value;
      is = record { x = (kind, (critical, (value, tt))); is = record { values = p.values; whole = refl; is = fields }; means = refl };
      front = in_front o reads value string.plain.is;
    }
