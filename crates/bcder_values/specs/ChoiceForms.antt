-- Forms of values of one of two types (X.680 29).
use Rattle.std.proofs.Common.{◌≡◌, ◌⊎◌, inl, inr, ℕ, List, refl, sym, ap, ◌∙◌}
use Rattle.bcder_values.specs.bcder_tree.declared.mode.Mode.{Mode}
use Rattle.bcder_values.specs.bcder_tree.Tags.{TagValue}
use Rattle.bcder_values.specs.bcder_tree.Tree.{Tree, Trees}
use Rattle.bcder_content.specs.Contents.{tag_of}
use Rattle.bcder_content.specs.Grammar.{OneOf, As, One}
use Rattle.bcder_values.specs.bcder_primitive.Encoded.{SpellsSome}
use Rattle.bcder_values.specs.Forms.{Form, Alone}

module _ {A B : Type 0} (f : Form A) (g : Form B) where
  abbrev pub IsChoice : Mode → Tree → A ⊎ B → Type 0
  IsChoice m = OneOf (As (f.reads m) inl) (As (g.reads m) inr)

  abbrev pub LawfulChoice : A ⊎ B → Type 0
  LawfulChoice (inl x) = f.lawful x
  LawfulChoice (inr y) = g.lawful y

  abbrev pub ChoiceTrees : A ⊎ B → Mode → Trees → Type 0
  ChoiceTrees (inl x) = f.trees x
  ChoiceTrees (inr y) = g.trees y

  abbrev pub WritesChoice : A ⊎ B → Mode → List ℕ → Type 0
  WritesChoice (inl x) = f.writes x
  WritesChoice (inr y) = g.writes y

  abbrev pub choice_again : Mode → A ⊎ B → A ⊎ B
  choice_again m (inl x) = inl (f.again m x)
  choice_again m (inr y) = inr (g.again m y)

  pub choice_spelled : (x : A ⊎ B) (m : Mode) (text : List ℕ) → WritesChoice x m text
      → SpellsSome m (ChoiceTrees x m) text
  choice_spelled (inl x) = f.spelled x
  choice_spelled (inr y) = g.spelled y

  pub choice_text : (x : A ⊎ B) (m : Mode) (a b : List ℕ) → WritesChoice x m a → WritesChoice x m b
      → a ≡ b
  choice_text (inl x) = f.one_text x
  choice_text (inr y) = g.one_text y

  pub choice_tagged : (m : Mode) (t : Tree) (x : A ⊎ B) → IsChoice m t x → f.has (tag_of t)
      ⊎ g.has (tag_of t)
  choice_tagged m t x p = elim p.cases [
    | inl q ↦ inl (f.tagged m t q.x q.is)
    | inr q ↦ inr (g.tagged m t q.x q.is)
  ]

  pub choice_read : f.sound → g.sound → (x : A ⊎ B) (m : Mode) (ts : Trees) → LawfulChoice x
      → ChoiceTrees x m ts → Alone (IsChoice m) (choice_again m x) ts
  choice_read s r (inl x) m ts l p =
      let a = f.is_read s x m ts l p in
      record {
        tree = a.tree;
        alone = a.alone;
        is = record { cases = inl (record { x = f.again m x; is = a.is; means = refl }) };
      }
  choice_read s r (inr y) m ts l p =
      let a = g.is_read r y m ts l p in
      record {
        tree = a.tree;
        alone = a.alone;
        is = record { cases = inr (record { x = g.again m y; is = a.is; means = refl }) };
      }

  abbrev left : A → A ⊎ B
  left x = inl x

  abbrev right : B → A ⊎ B
  right y = inr y

  pub choice_one : ((t : TagValue) → f.has t → g.has t → ⊥) → (m : Mode) → One (f.reads m)
      → One (g.reads m) → One (IsChoice m)
  choice_one apart m a b = record {
    one = λ t x y p q. elim p.cases [
      | inl l ↦ elim q.cases [
        | inl r ↦ l.means ∙ ap left (a.one t l.x r.x l.is r.is) ∙ sym r.means
        | inr r ↦ absurd (apart (tag_of t) (f.tagged m t l.x l.is) (g.tagged m t r.x r.is))
      ]
      | inr l ↦ elim q.cases [
        | inl r ↦ absurd (apart (tag_of t) (f.tagged m t r.x r.is) (g.tagged m t l.x l.is))
        | inr r ↦ l.means ∙ ap right (b.one t l.x r.x l.is r.is) ∙ sym r.means
      ]
    ];
  }

-- A value of the one or of the other: CHOICE.
abbrev pub choice : {A B : Type 0} → Form A → Form B → Form (A ⊎ B)
choice {A} {B} f g = record {
  reads = IsChoice f g;
  lawful = LawfulChoice f g;
  again = choice_again f g;
  trees = ChoiceTrees f g;
  writes = WritesChoice f g;
  has = λ t. f.has t ⊎ g.has t;
  sound = ((t : TagValue) → f.has t → g.has t → ⊥) × (f.sound × g.sound);
  clear = λ m. f.clear m × g.clear m;
  spelled = choice_spelled f g;
  one_text = choice_text f g;
  tagged = choice_tagged f g;
  is_read = λ s. choice_read f g s.1.0 s.1.1;
  one_meaning =
      λ s m c. choice_one f g s.0 m (f.one_meaning s.1.0 m c.0) (g.one_meaning s.1.1 m c.1);
}
