-- Forms of values: what is read, what is written, and that the one is the other. The form of a type is put together
-- from the forms of its fields, one line a field, and all laws of the type follow from it.
use Rattle.std.proofs.Common.{◌≡◌, ℕ, List, refl, sym, ap, ◌∙◌, subst}
use Rattle.bcder_values.specs.bcder_tree.declared.mode.Mode.{Mode}
use Rattle.bcder_values.specs.bcder_tree.Tags.{TagValue}
use Rattle.bcder_values.specs.bcder_tree.Tree.{Tree, Trees, primitive, constructed, none, more}
use Rattle.bcder_content.specs.Contents.{tag_of}
use Rattle.bcder_content.specs.Grammar.{Inside, OctetsOf, As, End, Then, One, OneAll, OneOctets}
use Rattle.bcder_content.proofs.Unique.{octets_one, inside_one, as_one, then_one, end_one, same_trees}
use Rattle.bcder_values.specs.bcder_primitive.Encoded.{NoTree, NoText, AreBoth, WritesBoth, IsPlain, WritesPlain, IsWrapped, WritesWrapped, SpellsSome, joined}
use Rattle.bcder_values.specs.Choices.{nothing_spelled, nothing_one}
use Rattle.bcder_values.specs.Laws.{both_spelled, both_one}
use Rattle.bcder_values.specs.Plains.{plain_spelled, plain_one}
use Rattle.bcder_values.specs.Wraps.{wrapped_spelled, wrapped_one}

-- The values are one, of Q.
pub record Alone {A : Type 0} (Q : Tree → A → Type 0) (x : A) (ts : Trees) : Type 0 where
  pub tree : Tree
  pub alone : ts ≡ more tree none
  pub is : Q tree x

-- A value: its grammar, which values may be written, their trees and octets, and what is read of them again.
-- `has` are the tags that its values may have. `sound` is what has to hold of the tags in it for it to be read as it
-- is written, `clear` in which modes a tree is read in one way.
pub record Form (A : Type 0) : Type 1 where
  pub reads : Mode → Tree → A → Type 0
  pub lawful : A → Type 0
  pub again : Mode → A → A
  pub trees : A → Mode → Trees → Type 0
  pub writes : A → Mode → List ℕ → Type 0
  pub has : TagValue → Type 0
  pub sound : Type 0
  pub clear : Mode → Type 0
  pub spelled : (x : A) (m : Mode) (text : List ℕ) → writes x m text → SpellsSome m (trees x m) text
  pub one_text : (x : A) (m : Mode) (a b : List ℕ) → writes x m a → writes x m b → a ≡ b
  pub tagged : (m : Mode) (t : Tree) (x : A) → reads m t x → has (tag_of t)
  pub is_read : sound → (x : A) (m : Mode) (ts : Trees) → lawful x → trees x m ts
      → Alone (reads m) (again m x) ts
  pub one_meaning : sound → (m : Mode) → clear m → One (reads m)

-- The values of a content. `begins` are the tags that the first of them may have.
pub record Forms (A : Type 0) : Type 1 where
  pub reads : Mode → Trees → A → Type 0
  pub lawful : A → Type 0
  pub again : Mode → A → A
  pub trees : A → Mode → Trees → Type 0
  pub writes : A → Mode → List ℕ → Type 0
  pub begins : TagValue → Type 0
  pub sound : Type 0
  pub clear : Mode → Type 0
  pub spelled : (x : A) (m : Mode) (text : List ℕ) → writes x m text → SpellsSome m (trees x m) text
  pub one_text : (x : A) (m : Mode) (a b : List ℕ) → writes x m a → writes x m b → a ≡ b
  pub first : (m : Mode) (ts : Trees) (x : A) → reads m ts x → (t : Tree) (us : Trees)
      → ts ≡ more t us → begins (tag_of t)
  pub is_read : sound → (x : A) (m : Mode) (ts : Trees) → lawful x → trees x m ts
      → reads m ts (again m x)
  pub one_meaning : sound → (m : Mode) → clear m → OneAll (reads m)

-- A primitive value: what its octets mean, and which are written.
pub record Octets (A : Type 0) : Type 1 where
  pub reads : Mode → List ℕ → A → Type 0
  pub lawful : A → Type 0
  pub again : Mode → A → A
  pub writes : A → Mode → List ℕ → Type 0
  pub one_content : (x : A) (m : Mode) (a b : List ℕ) → writes x m a → writes x m b → a ≡ b
  pub is_read : (x : A) (m : Mode) (content : List ℕ) → lawful x → writes x m content
      → reads m content (again m x)
  pub one_meaning : (m : Mode) → OneOctets (reads m)

abbrev pub plain : {A : Type 0} → TagValue → Octets A → Form A
plain {A} tag o = record {
  reads = λ m. OctetsOf tag (o.reads m);
  lawful = o.lawful;
  again = o.again;
  trees = λ x m. IsPlain tag (o.writes x m);
  writes = λ x m. WritesPlain m tag (o.writes x m);
  has = λ t. t ≡ tag;
  sound = Unit {0};
  clear = λ m. Unit {0};
  spelled = λ x m. plain_spelled m;
  one_text = λ x m. plain_one m (o.one_content x m);
  tagged = λ m t x p. ap tag_of p.whole;
  is_read = λ s x m ts l p. record {
    tree = primitive tag p.content;
    alone = p.whole;
    is = record { content = p.content; whole = refl; is = o.is_read x m p.content l p.is };
  };
  one_meaning = λ s m c. octets_one (o.one_meaning m);
}

pub not_more : {t : Tree} {ts : Trees} → none ≡ more t ts → ⊥
not_more e = cc

-- The first of values has a tag of its form.
pub first_of : {A : Type 0} (Q : Tree → A → Type 0) (has : TagValue → Type 0) {x : A} {t u : Tree}
    {ts us : Trees}
    → ((t : Tree) (x : A) → Q t x → has (tag_of t)) → Q t x → more t ts ≡ more u us → has (tag_of u)
first_of Q has {x} {t} tagged q e =
    subst (λ (z : Tree). has (tag_of z)) (same_trees e).0 (tagged t x q)

-- The last value of a content.
abbrev pub last : {A : Type 0} → Form A → Forms (A × Unit {0})
last {A} f = record {
  reads = λ m. Then (f.reads m) End;
  lawful = λ x. f.lawful x.0;
  again = λ m x. (f.again m x.0, tt);
  trees = λ x. f.trees x.0;
  writes = λ x. f.writes x.0;
  begins = f.has;
  sound = f.sound;
  clear = f.clear;
  spelled = λ x. f.spelled x.0;
  one_text = λ x. f.one_text x.0;
  first = λ m ts x p t us e. first_of (f.reads m) f.has (f.tagged m) p.is (sym p.whole ∙ e);
  is_read = λ s x m ts l p. let a = f.is_read s x.0 m ts l p in
      record {
        first = a.tree;
        others = none;
        whole = a.alone;
        is = a.is;
        rest = record { ended = refl };
      };
  one_meaning = λ s m c. then_one (f.one_meaning s m c) end_one;
}

-- A value, and others after it.
abbrev pub both : {A B : Type 0} → Form A → Forms B → Forms (A × B)
both {A} {B} f g = record {
  reads = λ m. Then (f.reads m) (g.reads m);
  lawful = λ x. f.lawful x.0 × g.lawful x.1;
  again = λ m x. (f.again m x.0, g.again m x.1);
  trees = λ x m. AreBoth (f.trees x.0 m) (g.trees x.1 m);
  writes = λ x m. WritesBoth (f.writes x.0 m) (g.writes x.1 m);
  begins = f.has;
  sound = f.sound × g.sound;
  clear = λ m. f.clear m × g.clear m;
  spelled = λ x m. both_spelled m (f.spelled x.0 m) (g.spelled x.1 m);
  one_text = λ x m. both_one (f.one_text x.0 m) (g.one_text x.1 m);
  first = λ m ts x p t us e. first_of (f.reads m) f.has (f.tagged m) p.is (sym p.whole ∙ e);
  is_read = λ s x m ts l p. let a = f.is_read s.0 x.0 m p.first l.0 p.is_first in
      record {
        first = a.tree;
        others = p.second;
        whole = p.whole ∙ ap (λ z. joined z p.second) a.alone;
        is = a.is;
        rest = g.is_read s.1 x.1 m p.second l.1 p.is_second;
      };
  one_meaning = λ s m c. then_one (f.one_meaning s.0 m c.0) (g.one_meaning s.1 m c.1);
}

-- A constructed value of that tag around them: SEQUENCE, SET, or an explicit tag.
abbrev pub wrapped : {A : Type 0} → TagValue → Forms A → Form A
wrapped {A} tag f = record {
  reads = λ m. Inside tag (f.reads m);
  lawful = f.lawful;
  again = f.again;
  trees = λ x m. IsWrapped tag (f.trees x m);
  writes = λ x m. WritesWrapped m tag (f.writes x m);
  has = λ t. t ≡ tag;
  sound = f.sound;
  clear = f.clear;
  spelled = λ x m. wrapped_spelled m (f.spelled x m);
  one_text = λ x m. wrapped_one m (f.one_text x m);
  tagged = λ m t x p. ap tag_of p.whole;
  is_read = λ s x m ts l p. record {
    tree = constructed tag p.values;
    alone = p.whole;
    is = record { values = p.values; whole = refl; is = f.is_read s x m p.values l p.is };
  };
  one_meaning = λ s m c. inside_one (f.one_meaning s m c);
}

-- The value of a form by what it means, and what is written of a meaning.
abbrev pub mapped : {A B : Type 0} → (A → B) → (B → A) → Form A → Form B
mapped {A} {B} to from f = record {
  reads = λ m. As (f.reads m) to;
  lawful = λ y. f.lawful (from y);
  again = λ m y. to (f.again m (from y));
  trees = λ y. f.trees (from y);
  writes = λ y. f.writes (from y);
  has = f.has;
  sound = f.sound;
  clear = f.clear;
  spelled = λ y. f.spelled (from y);
  one_text = λ y. f.one_text (from y);
  tagged = λ m t y p. f.tagged m t p.x p.is;
  is_read = λ s y m ts l p. let a = f.is_read s (from y) m ts l p in
      record {
        tree = a.tree;
        alone = a.alone;
        is = record { x = f.again m (from y); is = a.is; means = refl };
      };
  one_meaning = λ s m c. as_one (f.one_meaning s m c);
}

-- A value within a constructed one of that tag: an explicit tag (X.690 8.14).
abbrev pub explicit : {A : Type 0} → TagValue → Form A → Form A
explicit tag f = mapped (λ x. x.0) (λ x. (x, tt)) (wrapped tag (last f))

-- No values.
abbrev pub ended : Forms (Unit {0})
ended = record {
  reads = λ m. End;
  lawful = λ x. Unit {0};
  again = λ m x. x;
  trees = λ x m. NoTree;
  writes = λ x m. NoText;
  begins = λ t. ⊥;
  sound = Unit {0};
  clear = λ m. Unit {0};
  spelled = λ x m. nothing_spelled m;
  one_text = λ x m. nothing_one;
  first = λ m ts x p t us e. not_more (sym p.ended ∙ e);
  is_read = λ s x m ts l p. record { ended = p };
  one_meaning = λ s m c. end_one;
}

-- What is written of a lawful value is read again, as the only value.
pub written_again : {A : Type 0} (f : Form A) → f.sound → (x : A) (m : Mode) (text : List ℕ)
    → f.lawful x → f.writes x m text
    → SpellsSome m (λ ts. Then (f.reads m) End ts (f.again m x, tt)) text
written_again f s x m text l w =
    let p = f.spelled x m text w in
    record
    { trees = p.trees; is = (last f).is_read s (x, tt) m p.trees l p.is; spelled = p.spelled }
