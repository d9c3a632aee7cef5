-- What values stand for, and what is written of them (X.690 8.1, 9.1, 10.1).
use Rattle.std.specs.Prelude.{◌≡◌, ℕ, ◌^◌, ◌<◌, List, [], ◌++◌, length}
use Rattle.bcder_primitive.specs.bcder_tree.declared.mode.Mode.{Mode}
use Rattle.bcder_primitive.specs.bcder_tree.declared.mode.Mode.TheVariants.{Ber, Cer, Der}
use Rattle.bcder_primitive.specs.bcder_tree.Tags.{TagValue}
use Rattle.bcder_primitive.specs.bcder_tree.Tree.{Trees, primitive, constructed, none, more, IsPrimitive, IsConstructed, SpellsAll}

-- In BER values are written as in DER, with definite lengths in the fewest octets.
abbrev pub written_as : Mode → Mode
written_as Ber = Der
written_as Cer = Cer
written_as Der = Der

-- These trees, and after them those.
abbrev pub joined : Trees → Trees → Trees
joined none us = us
joined (more t ts) us = more t (joined ts us)

-- No values, and nothing written.
abbrev pub NoTree : Trees → Type 0
NoTree ts = ts ≡ none

abbrev pub NoText : List ℕ → Type 0
NoText text = text ≡ []

-- One primitive value, with content octets of P.
pub record IsPlain (tag : TagValue) (P : List ℕ → Type 0) (ts : Trees) : Type 0 where
  pub content : List ℕ
  pub is : P content
  pub whole : ts ≡ more (primitive tag content) none

pub record WritesPlain (m : Mode) (tag : TagValue) (P : List ℕ → Type 0) (text : List ℕ)
    : Type 0 where
  pub content : List ℕ
  pub is : P content
  pub spelled : IsPrimitive (written_as m) text tag content

-- One constructed value, around values of P; its content has at most 2^32 - 1 octets.
pub record IsWrapped (tag : TagValue) (P : Trees → Type 0) (ts : Trees) : Type 0 where
  pub values : Trees
  pub is : P values
  pub whole : ts ≡ more (constructed tag values) none

pub record WritesWrapped (m : Mode) (tag : TagValue) (P : List ℕ → Type 0) (text : List ℕ)
    : Type 0 where
  pub content : List ℕ
  pub is : P content
  pub few : length content < 2 ^ 32
  pub spelled : IsConstructed (written_as m) text tag content

-- Values of P, and after them values of Q.
pub record AreBoth (P Q : Trees → Type 0) (ts : Trees) : Type 0 where
  pub first : Trees
  pub second : Trees
  pub is_first : P first
  pub is_second : Q second
  pub whole : ts ≡ joined first second

pub record WritesBoth (P Q : List ℕ → Type 0) (text : List ℕ) : Type 0 where
  pub first : List ℕ
  pub second : List ℕ
  pub is_first : P first
  pub is_second : Q second
  pub whole : text ≡ first ++ second

-- The text spells values of T.
pub record SpellsSome (m : Mode) (T : Trees → Type 0) (text : List ℕ) : Type 0 where
  pub trees : Trees
  pub is : T trees
  pub spelled : SpellsAll m trees text
