-- Forms of lists of values (X.680 26, 28).
use Rattle.std.proofs.Common.{◌≡◌, List, [], ◌∷◌, map, sym, ap, ◌∙◌, subst}
use Rattle.bcder_values.specs.bcder_tree.declared.mode.Mode.{Mode}
use Rattle.bcder_values.specs.bcder_tree.Tags.{sequence_tag, set_tag}
use Rattle.bcder_values.specs.bcder_tree.Tree.{Tree, Trees, none, more}
use Rattle.bcder_content.specs.Contents.{tag_of}
use Rattle.bcder_content.specs.Grammar.{Many, ManyCases}
use Rattle.bcder_content.proofs.Unique.{many_one, same_trees}
use Rattle.bcder_values.specs.bcder_primitive.Encoded.{joined}
use Rattle.bcder_values.specs.Forms.{Form, Forms, wrapped}
use Rattle.bcder_values.specs.Lists.{AreAll, WritesAll, all_spelled, all_one}

-- Each may be written.
abbrev pub LawfulAll : {A : Type 0} → (A → Type 0) → List A → Type 0
LawfulAll P [] = Unit {0}
LawfulAll P (x ∷ xs) = P x × LawfulAll P xs

pub all_read : {A : Type 0} (f : Form A) → f.sound → (m : Mode) (xs : List A) (ts : Trees)
    → LawfulAll f.lawful xs → AreAll (λ x. f.trees x m) xs ts
    → ManyCases (f.reads m) ts (map (f.again m) xs)
all_read f s m [] ts l p = p
all_read f s m (x ∷ xs) ts l p =
    let a = f.is_read s x m p.first l.0 p.is_first in
    (a.tree, p.second, p.whole ∙ ap (λ z. joined z p.second) a.alone, a.is, all_read f s m xs p.second l.1 p.is_second)

pub first_many : {A : Type 0} (f : Form A) (m : Mode) (ts : Trees) (xs : List A)
    → ManyCases (f.reads m) ts xs → (t : Tree) (us : Trees) → ts ≡ more t us → f.has (tag_of t)
first_many f m ts [] p t us e = let k : none ≡ more t us = sym p ∙ e in absurd cc
first_many f m ts (x ∷ xs) p t us e =
    subst (λ (z : Tree). f.has (tag_of z)) (same_trees (sym p.2 ∙ e)).0 (f.tagged m p.0 x p.3)

-- All values of a content, one after the other.
abbrev pub items : {A : Type 0} → Form A → Forms (List A)
items {A} f = record {
  reads = λ m. Many (f.reads m);
  lawful = LawfulAll f.lawful;
  again = λ m. map (f.again m);
  trees = λ xs m. AreAll (λ x. f.trees x m) xs;
  writes = λ xs m. WritesAll (λ x. f.writes x m) xs;
  begins = f.has;
  sound = f.sound;
  clear = f.clear;
  spelled = λ xs m. all_spelled m (λ x. f.spelled x m) xs;
  one_text = λ xs m. all_one (λ x. f.one_text x m) xs;
  first = λ m ts xs p. first_many f m ts xs p.cases;
  is_read = λ s xs m ts l p. record { cases = all_read f s m xs ts l p };
  one_meaning = λ s m c. many_one (f.one_meaning s m c);
}

-- SEQUENCE OF.
abbrev pub sequence_of : {A : Type 0} → Form A → Form (List A)
sequence_of f = wrapped sequence_tag (items f)

-- SET OF, whose values are written and read in the order of the list.
abbrev pub set_of : {A : Type 0} → Form A → Form (List A)
set_of f = wrapped set_tag (items f)
