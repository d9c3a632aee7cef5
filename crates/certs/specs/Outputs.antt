-- What is written: values, and the octets that spell them, which are always the same (X.690 8.1, 9.1, 10.1).
use Rattle.std.specs.Prelude.{◌≡◌, ℕ, List, Option}
use Rattle.certs.specs.bcder_tree.declared.mode.Mode.{Mode}
use Rattle.certs.specs.bcder_tree.declared.mode.Mode.TheVariants.{Der}
use Rattle.certs.specs.bcder_tree.Tags.{TagValue}
use Rattle.certs.specs.bcder_tree.Tree.{Tree, Trees}
use Rattle.certs.specs.bcder_values.Choices.{AreOptional, WritesOptional, optional_one, optional_spelled}
use Rattle.certs.specs.bcder_values.Forms.{Alone, Form}
use Rattle.certs.specs.bcder_values.Laws.{both_one, both_spelled}
use Rattle.certs.specs.bcder_values.Wraps.{wrapped_one, wrapped_spelled}
use Rattle.certs.specs.bcder_primitive.Encoded.{AreBoth, IsWrapped, SpellsSome, WritesBoth, WritesWrapped}

pub record Output : Type 1 where
  pub trees : Mode → Trees → Type 0
  pub writes : Mode → List ℕ → Type 0
  pub spelled : (m : Mode) (text : List ℕ) → writes m text → SpellsSome m (trees m) text
  pub one_text : (m : Mode) (a b : List ℕ) → writes m a → writes m b → a ≡ b

-- A value of a form.
abbrev pub of : {A : Type 0} → Form A → A → Output
of f x = record {
  trees = f.trees x;
  writes = f.writes x;
  spelled = f.spelled x;
  one_text = f.one_text x;
}

-- One after the other.
abbrev pub beside : Output → Output → Output
beside a b = record {
  trees = λ m. AreBoth (a.trees m) (b.trees m);
  writes = λ m. WritesBoth (a.writes m) (b.writes m);
  spelled = λ m. both_spelled m (a.spelled m) (b.spelled m);
  one_text = λ m. both_one (a.one_text m) (b.one_text m);
}

-- In a constructed value of that tag: SEQUENCE, or an explicit tag.
abbrev pub inside : TagValue → Output → Output
inside tag a = record {
  trees = λ m. IsWrapped tag (a.trees m);
  writes = λ m. WritesWrapped m tag (a.writes m);
  spelled = λ m. wrapped_spelled m (a.spelled m);
  one_text = λ m. wrapped_one m (a.one_text m);
}

-- What is there, or nothing.
abbrev pub perhaps : {A : Type 0} → (A → Output) → Option A → Output
perhaps f found = record {
  trees = λ m. AreOptional (λ x. (f x).trees m) found;
  writes = λ m. WritesOptional (λ x. (f x).writes m) found;
  spelled = λ m. optional_spelled m (λ x. (f x).spelled m) found;
  one_text = λ m. optional_one (λ x. (f x).one_text m) found;
}

-- What is written in DER is one value, which is read by Q as x.
abbrev pub IsReadAs : {A : Type 0} → (Tree → A → Type 0) → A → Output → Type 0
IsReadAs Q x o = (ts : Trees) → o.trees Der ts → Alone Q x ts
