-- Forms of fields that may be missing (X.680 25.8, 25.9).
use Rattle.std.proofs.Common.{◌≡◌, ◌⊎◌, inl, inr, Option, Some, None, refl, sym, ap, ◌∙◌, subst}
use Rattle.std.specs.Option.{option_map, unwrap_or}
use Rattle.bcder_values.specs.bcder_tree.declared.mode.Mode.{Mode}
use Rattle.bcder_values.specs.bcder_tree.Tags.{TagValue}
use Rattle.bcder_values.specs.bcder_tree.Tree.{Tree, Trees, none, more}
use Rattle.bcder_content.specs.Contents.{tag_of}
use Rattle.bcder_content.specs.Grammar.{End, Then, Without, OptCases, Opt, Default, Tagged}
use Rattle.bcder_content.proofs.Unique.{end_one, opt_one, default_one, same_trees}
use Rattle.bcder_values.specs.bcder_primitive.Encoded.{NoTree, AreBoth, WritesBoth, joined}
use Rattle.bcder_values.specs.Choices.{AreOptional, WritesOptional, optional_spelled, optional_one}
use Rattle.bcder_values.specs.Forms.{Form, Forms, ended}
use Rattle.bcder_values.specs.Laws.{both_spelled, both_one}

-- All values of a form have that tag, and what comes after it never begins with it.
pub record Apart {A B : Type 0} (tag : TagValue) (f : Form A) (g : Forms B) : Type 0 where
  pub is : (t : TagValue) → f.has t → t ≡ tag
  pub behind : g.begins tag → ⊥

pub tagged_by : {A B : Type 0} {tag : TagValue} (f : Form A) (g : Forms B) → Apart tag f g
    → (m : Mode) → Tagged tag (f.reads m)
tagged_by f g a m = record { tagged = λ t x p. a.is (tag_of t) (f.tagged m t x p) }

-- What may be missing may be written.
abbrev pub LawfulOption : {A : Type 0} → (A → Type 0) → Option A → Type 0
LawfulOption P None = Unit {0}
LawfulOption P (Some x) = P x

module _ {A B : Type 0} (tag : TagValue) (f : Form A) (g : Forms B) (a : Apart tag f g) where
  -- What is read after the field doesn't begin with its tag.
  without : (m : Mode) (ts : Trees) (b : B) → g.reads m ts b → Without tag ts
  without m ts b p =
      record { unlike = λ t us e same. a.behind (subst g.begins same (g.first m ts b p t us e)) }

  pub cases_read : (o : Option A) (b : B) (m : Mode) (ts : Trees) → f.sound → g.sound
      → LawfulOption f.lawful o → g.lawful b
      → AreBoth (AreOptional (λ v. f.trees v m) o) (g.trees b m) ts
      → OptCases tag (f.reads m) (g.reads m) ts (option_map (f.again m) o) (g.again m b)
  cases_read None b m ts s t l k p =
      let whole : ts ≡ p.second = p.whole ∙ ap (λ z. joined z p.second) p.is_first in
      let behind = subst (λ (z : Trees). g.reads m z (g.again m b)) (sym whole) (g.is_read t b m p.second k p.is_second) in
      (without m ts (g.again m b) behind, behind)
  cases_read (Some x) b m ts s t l k p =
      let v = f.is_read s x m p.first l p.is_first in
      record {
        first = v.tree;
        others = p.second;
        whole = p.whole ∙ ap (λ z. joined z p.second) v.alone;
        is = v.is;
        rest = g.is_read t b m p.second k p.is_second;
      }

pub first_cases : {A B : Type 0} (tag : TagValue) (f : Form A) (g : Forms B) (m : Mode)
    (ts : Trees) (o : Option A) (b : B)
    → OptCases tag (f.reads m) (g.reads m) ts o b → (t : Tree) (us : Trees) → ts ≡ more t us
    → f.has (tag_of t) ⊎ g.begins (tag_of t)
first_cases tag f g m ts None b p t us e = inr (g.first m ts b p.1 t us e)
first_cases tag f g m ts (Some x) b p t us e =
    inl (subst (λ (z : Tree). f.has (tag_of z)) (same_trees (sym p.whole ∙ e)).0
    (f.tagged m p.first x p.is))

-- A value of that tag, or none, and others after it: OPTIONAL.
abbrev pub maybe : {A B : Type 0} → TagValue → Form A → Forms B → Forms (Option A × B)
maybe {A} {B} tag f g = record {
  reads = λ m. Opt tag (f.reads m) (g.reads m);
  lawful = λ x. LawfulOption f.lawful x.0 × g.lawful x.1;
  again = λ m x. (option_map (f.again m) x.0, g.again m x.1);
  trees = λ x m. AreBoth (AreOptional (λ v. f.trees v m) x.0) (g.trees x.1 m);
  writes = λ x m. WritesBoth (WritesOptional (λ v. f.writes v m) x.0) (g.writes x.1 m);
  begins = λ t. f.has t ⊎ g.begins t;
  sound = Apart tag f g × (f.sound × g.sound);
  clear = λ m. f.clear m × g.clear m;
  spelled = λ x m. both_spelled m (optional_spelled m (λ v. f.spelled v m) x.0) (g.spelled x.1 m);
  one_text = λ x m. both_one (optional_one (λ v. f.one_text v m) x.0) (g.one_text x.1 m);
  first = λ m ts x p. first_cases tag f g m ts x.0 x.1 p.cases;
  is_read =
      λ s x m ts l p. record { cases = cases_read tag f g s.0 x.0 x.1 m ts s.1.0 s.1.1 l.0 l.1 p };
  one_meaning = λ s m c. opt_one (tagged_by f g s.0 m) (f.one_meaning s.1.0 m c.0)
      (g.one_meaning s.1.1 m c.1);
}

pub default_of : {A B : Type 0} {tag : TagValue} {Q : Tree → A → Type 0} {R : Trees → B → Type 0}
    (missing y : A) {ts : Trees} {b : B} (o : Option A)
    → unwrap_or o missing ≡ y → OptCases tag Q R ts o b → Default tag Q missing R ts (y, b)
default_of missing y None e p = record { cases = inl (p.0, sym e, p.1) }
default_of {Q = Q} {R} missing y {ts} {b} (Some x) e p =
    record { cases = inr (subst (λ z. Then Q R ts (z, b)) e p) }

-- Which values of a field with a default are written: all but the default (X.690 11.5), which is read again as it is.
pub record Shows {A : Type 0} (f : Form A) (missing : A) (shown : A → Option A) : Type 0 where
  pub shows : (x : A) → unwrap_or (shown x) missing ≡ x
  pub same : (m : Mode) → f.again m missing ≡ missing

pub again_shown : {A : Type 0} (f : Form A) (missing : A) (shown : A → Option A)
    → Shows f missing shown → (m : Mode) (x : A)
    → unwrap_or (option_map (f.again m) (shown x)) missing ≡ f.again m x
again_shown {A} f missing shown s m x = at (shown x) ∙ ap (f.again m) (s.shows x)
  where
    at : (o : Option A)
        → unwrap_or (option_map (f.again m) o) missing ≡ f.again m (unwrap_or o missing)
    at None = sym (s.same m)
    at (Some y) = refl

pub first_default : {A B : Type 0} (tag : TagValue) (f : Form A) (g : Forms B) (missing : A)
    (m : Mode) (ts : Trees) (x : A × B)
    → Default tag (f.reads m) missing (g.reads m) ts x → (t : Tree) (us : Trees) → ts ≡ more t us
    → f.has (tag_of t) ⊎ g.begins (tag_of t)
first_default tag f g missing m ts x p t us e = elim p.cases [
  | inl q ↦ inr (g.first m ts x.1 q.2 t us e)
  | inr q ↦ first_cases tag f g m ts (Some x.0) x.1 q t us e
]

-- A value of that tag, or none where it is the default, and others after it: DEFAULT.
abbrev pub default : {A B : Type 0} → TagValue → Form A → A → (A → Option A) → Forms B
    → Forms (A × B)
default {A} {B} tag f missing shown g = record {
  reads = λ m. Default tag (f.reads m) missing (g.reads m);
  lawful = λ x. LawfulOption f.lawful (shown x.0) × g.lawful x.1;
  again = λ m x. (f.again m x.0, g.again m x.1);
  trees = λ x m. AreBoth (AreOptional (λ v. f.trees v m) (shown x.0)) (g.trees x.1 m);
  writes = λ x m. WritesBoth (WritesOptional (λ v. f.writes v m) (shown x.0)) (g.writes x.1 m);
  begins = λ t. f.has t ⊎ g.begins t;
  sound = Apart tag f g × (Shows f missing shown × (f.sound × g.sound));
  clear = λ m. f.clear m × g.clear m;
  spelled =
      λ x m. both_spelled m (optional_spelled m (λ v. f.spelled v m) (shown x.0)) (g.spelled x.1 m);
  one_text = λ x m. both_one (optional_one (λ v. f.one_text v m) (shown x.0)) (g.one_text x.1 m);
  first = λ m ts x p. first_default tag f g missing m ts x p;
  is_read = λ s x m ts l p.
      default_of missing (f.again m x.0) (option_map (f.again m) (shown x.0))
      (again_shown f missing shown s.1.0 m x.0)
      (cases_read tag f g s.0 (shown x.0) x.1 m ts s.1.1.0 s.1.1.1 l.0 l.1 p);
  one_meaning = λ s m c. default_one (tagged_by f g s.0 m) (f.one_meaning s.1.1.0 m c.0)
      (g.one_meaning s.1.1.1 m c.1);
}

-- At the end of a content.

joined_none : (ts : Trees) → joined ts none ≡ ts
joined_none none = refl
joined_none (more t ts) = ap (more t) (joined_none ts)

-- Values with none after them.
pub with_none : (T : Trees → Type 0) {ts : Trees} → T ts → AreBoth T NoTree ts
with_none T {ts} p = record {
  first = ts;
  second = none;
  is_first = p;
  is_second = refl;
  whole = sym (joined_none ts);
}

-- A value of that tag, or none, as the last.
abbrev pub last_maybe : {A : Type 0} → TagValue → Form A → Forms (Option A × Unit {0})
last_maybe {A} tag f = record {
  reads = λ m. Opt tag (f.reads m) End;
  lawful = λ x. LawfulOption f.lawful x.0;
  again = λ m x. (option_map (f.again m) x.0, tt);
  trees = λ x m. AreOptional (λ v. f.trees v m) x.0;
  writes = λ x m. WritesOptional (λ v. f.writes v m) x.0;
  begins = λ t. f.has t ⊎ ⊥;
  sound = Apart tag f ended × f.sound;
  clear = f.clear;
  spelled = λ x m. optional_spelled m (λ v. f.spelled v m) x.0;
  one_text = λ x m. optional_one (λ v. f.one_text v m) x.0;
  first = λ m ts x p. first_cases tag f ended m ts x.0 x.1 p.cases;
  is_read = λ s x m ts l p. record {
    cases = cases_read tag f ended s.0 x.0 tt m ts s.1 tt l tt
        (with_none (AreOptional (λ v. f.trees v m) x.0) p);
  };
  one_meaning = λ s m c. opt_one (tagged_by f ended s.0 m) (f.one_meaning s.1 m c) end_one;
}

-- A value of that tag, or none where it is the default, as the last.
abbrev pub last_default : {A : Type 0} → TagValue → Form A → A → (A → Option A)
    → Forms (A × Unit {0})
last_default {A} tag f missing shown = record {
  reads = λ m. Default tag (f.reads m) missing End;
  lawful = λ x. LawfulOption f.lawful (shown x.0);
  again = λ m x. (f.again m x.0, tt);
  trees = λ x m. AreOptional (λ v. f.trees v m) (shown x.0);
  writes = λ x m. WritesOptional (λ v. f.writes v m) (shown x.0);
  begins = λ t. f.has t ⊎ ⊥;
  sound = Apart tag f ended × (Shows f missing shown × f.sound);
  clear = f.clear;
  spelled = λ x m. optional_spelled m (λ v. f.spelled v m) (shown x.0);
  one_text = λ x m. optional_one (λ v. f.one_text v m) (shown x.0);
  first = λ m ts x p. first_default tag f ended missing m ts x p;
  is_read = λ s x m ts l p.
      default_of missing (f.again m x.0) (option_map (f.again m) (shown x.0))
      (again_shown f missing shown s.1.0 m x.0)
      (cases_read tag f ended s.0 (shown x.0) tt m ts s.1.1 tt l tt
      (with_none (AreOptional (λ v. f.trees v m) (shown x.0)) p));
  one_meaning = λ s m c. default_one (tagged_by f ended s.0 m) (f.one_meaning s.1.1 m c) end_one;
}
