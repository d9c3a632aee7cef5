-- That something of a grammar is next, read or not: what lack of memory shows.
use Rattle.std.specs.Prelude.{◌≡◌, ℕ, false, List}
use Rattle.bcder_content.specs.bcder_tree.Tree.{Tree}
use Rattle.bcder_primitive.specs.Plain.{OctetsLeft, WholeOctets}
use Rattle.bcder_content.specs.Contents.{ValuesLeft, Ahead}
use Rattle.bcder_content.specs.declared.content.Content.{Content}
use Rattle.bcder_content.specs.Either.{form_in, in_octets, left_of}

-- All that is left of a primitive content are octets of the grammar.
pub record HasOctets {A : Type 0} (P : List ℕ → A → Type 0) (p : OctetsLeft) : Type 0 where
  pub text : List ℕ
  pub value : A
  pub is : P text value
  pub whole : WholeOctets p text

-- The next value is of the grammar.
pub record HasNext {A : Type 0} (P : Tree → A → Type 0) (v : ValuesLeft) : Type 0 where
  pub tree : Tree
  pub value : A
  pub is : P tree value
  pub next : Ahead v tree

-- A content is that of a primitive value, and all that is left of it are octets of the grammar.
pub record HasPrimitive {S A : Type 0} (rest : S → List ℕ) (P : List ℕ → A → Type 0) (c : Content S)
    : Type 0 where
  pub primitive : form_in c ≡ false
  pub octets : HasOctets P (in_octets (left_of rest c))
