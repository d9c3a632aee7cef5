-- Further words of grammars: what a list of values says together, what only some values mean, fields that say what
-- comes after them, and values whose octets are kept.
use Rattle.std.specs.Prelude.{◌≡◌, ℕ, List}
use Rattle.bcder_content.specs.bcder_tree.declared.mode.Mode.{Mode}
use Rattle.bcder_content.specs.bcder_tree.Tree.{Tree, Trees, more, Spells}
use Rattle.bcder_content.specs.Grammar.{Many}

-- Values of Q, one for each of a list, and what the list says by R (SEQUENCE OF whose values are tested together).
pub record Gathers {A S : Type 0} (Q : Tree → A → Type 0) (R : List A → S → Type 0) (ts : Trees)
    (s : S) : Type 0 where
  pub xs : List A
  pub are : Many Q ts xs
  pub says : R xs s

-- A value of Q, and what its meaning means by R, if anything.
pub record Means {A B : Type 0} (Q : Tree → A → Type 0) (R : A → B → Type 0) (t : Tree) (y : B)
    : Type 0 where
  pub x : A
  pub is : Q t x
  pub means : R x y

-- A value of Q, and then values that depend on what it means (ANY DEFINED BY).
pub record ThenBy {A B : Type 0} (Q : Tree → A → Type 0) (R : A → Trees → B → Type 0) (ts : Trees)
    (x : A × B)
    : Type 0 where
  pub first : Tree
  pub others : Trees
  pub whole : ts ≡ more first others
  pub is : Q first x.0
  pub rest : R x.0 others x.1

-- A value as it is.
pub record Itself (t x : Tree) : Type 0 where
  pub same : t ≡ x

-- A value of Q, with its octets.
pub record Kept {A : Type 0} (m : Mode) (Q : Tree → A → Type 0) (t : Tree) (x : List ℕ × A)
    : Type 0 where
  pub spelled : Spells m t x.0
  pub is : Q t x.1
