-- Grammars of octets. In BER the values that are read do not tell the octets that spelled them; where octets are signed,
-- a grammar speaks of these very octets, from the outermost value down to them.
use Rattle.std.specs.Prelude.{◌≡◌, ℕ, List, [], ◌++◌}
use Rattle.bcder_content.specs.bcder_tree.declared.mode.Mode.{Mode}
use Rattle.bcder_content.specs.bcder_tree.declared.mode.Mode.TheVariants.{Der}
use Rattle.bcder_content.specs.bcder_tree.Tags.{TagValue}
use Rattle.bcder_content.specs.bcder_tree.Tree.{Tree, Trees, Spells, SpellsAll, IsConstructed}

-- The octets spell a value of Q.
pub record SpellsOf {A : Type 0} (m : Mode) (Q : Tree → A → Type 0) (text : List ℕ) (x : A)
    : Type 0 where
  pub tree : Tree
  pub is : Q tree x
  pub spelled : Spells m tree text

-- The octets spell values of P, one after the other.
pub record InOrder {A : Type 0} (m : Mode) (P : Trees → A → Type 0) (text : List ℕ) (x : A)
    : Type 0 where
  pub trees : Trees
  pub is : P trees x
  pub spelled : SpellsAll m trees text

-- Octets of P, which mean the octets themselves and what P says.
pub record WithOctets {A : Type 0} (P : List ℕ → A → Type 0) (text : List ℕ) (x : List ℕ × A)
    : Type 0 where
  pub same : x.0 ≡ text
  pub is : P text x.1

-- A constructed value of that tag, by its content octets (X.690 8.1.1.3, 8.1.3.6).
pub record Wraps {A : Type 0} (m : Mode) (tag : TagValue) (P : List ℕ → A → Type 0) (text : List ℕ)
    (x : A) : Type 0 where
  pub content : List ℕ
  pub around : IsConstructed m text tag content
  pub is : P content x

-- Octets of P, and then of R.
pub record Joins {A B : Type 0} (P : List ℕ → A → Type 0) (R : List ℕ → B → Type 0) (text : List ℕ)
    (x : A × B) : Type 0 where
  pub first : List ℕ
  pub others : List ℕ
  pub whole : text ≡ first ++ others
  pub is : P first x.0
  pub rest : R others x.1

-- No octets.
pub record NoOctets (text : List ℕ) (x : Unit {0}) : Type 0 where
  pub none : text ≡ []

-- Octets of P stand in front; what comes after them isn't looked at.
pub record InFront {A : Type 0} (P : List ℕ → A → Type 0) (octets : List ℕ) (x : A) : Type 0 where
  pub text : List ℕ
  pub rest : List ℕ
  pub whole : octets ≡ text ++ rest
  pub is : P text x

-- A value of Q in DER stands in front of the octets.
abbrev pub ReadsFront : {A : Type 0} → (Tree → A → Type 0) → List ℕ → A → Type 0
ReadsFront Q = InFront (SpellsOf Der Q)
