-- Grammars of values, put together from grammars of their parts (X.680: SEQUENCE, SEQUENCE OF, OPTIONAL, DEFAULT, CHOICE).
use Rattle.std.specs.Prelude.{◌≡◌, ℕ, ◌⊎◌, List, [], ◌∷◌, Option, Some, None}
use Rattle.bcder_content.specs.bcder_tree.declared.mode.Mode.{Mode}
use Rattle.bcder_content.specs.bcder_tree.Tags.{TagValue}
use Rattle.bcder_content.specs.bcder_tree.Tree.{Tree, Trees, primitive, constructed, none, more, Spells, SpellsAll}
use Rattle.bcder_content.specs.Contents.{tag_of}

-- A constructed value of that tag, by its values.
pub record Inside {A : Type 0} (tag : TagValue) (P : Trees → A → Type 0) (t : Tree) (x : A)
    : Type 0 where
  pub values : Trees
  pub whole : t ≡ constructed tag values
  pub is : P values x

-- A primitive value of that tag, by its octets.
pub record OctetsOf {A : Type 0} (tag : TagValue) (P : List ℕ → A → Type 0) (t : Tree) (x : A)
    : Type 0 where
  pub content : List ℕ
  pub whole : t ≡ primitive tag content
  pub is : P content x

-- Any value.
pub record Any (t : Tree) (x : Unit {0}) : Type 0 where
  pub any : Unit {0}

-- A value with these octets.
pub record Exactly (m : Mode) (t : Tree) (octets : List ℕ) : Type 0 where
  pub spelled : Spells m t octets

-- A value with these octets, of Q.
pub record ExactlyOf {A : Type 0} (m : Mode) (Q : Tree → A → Type 0) (t : Tree) (octets : List ℕ)
    : Type 0 where
  pub x : A
  pub is : Q t x
  pub spelled : Spells m t octets

-- A value of Q that passes a test.
pub record Where {A : Type 0} (Q : Tree → A → Type 0) (passes : A → Type 0) (t : Tree) (x : A)
    : Type 0 where
  pub is : Q t x
  pub meets : passes x

-- A value of Q or of R (CHOICE).
pub record OneOf {A : Type 0} (Q R : Tree → A → Type 0) (t : Tree) (x : A) : Type 0 where
  pub cases : Q t x ⊎ R t x

-- What a value of Q means.
pub record As {A B : Type 0} (Q : Tree → A → Type 0) (f : A → B) (t : Tree) (y : B) : Type 0 where
  pub x : A
  pub is : Q t x
  pub means : y ≡ f x

-- No value.
pub record End (ts : Trees) (x : Unit {0}) : Type 0 where
  pub ended : ts ≡ none

-- Any values.
pub record Rest (ts : Trees) (x : Unit {0}) : Type 0 where
  pub any : Unit {0}

-- Values with these octets, of P.
pub record ExactlyAll {A : Type 0} (m : Mode) (P : Trees → A → Type 0) (ts : Trees)
    (octets : List ℕ) : Type 0 where
  pub x : A
  pub is : P ts x
  pub spelled : SpellsAll m ts octets

-- A value of Q, and then R.
pub record Then {A B : Type 0} (Q : Tree → A → Type 0) (R : Trees → B → Type 0) (ts : Trees)
    (x : A × B) : Type 0 where
  pub first : Tree
  pub others : Trees
  pub whole : ts ≡ more first others
  pub is : Q first x.0
  pub rest : R others x.1

-- The first value, if any, hasn't that tag.
pub record Without (tag : TagValue) (ts : Trees) : Type 0 where
  pub unlike : (t : Tree) (us : Trees) → ts ≡ more t us → tag_of t ≡ tag → ⊥

abbrev pub OptCases : {A B : Type 0} → TagValue → (Tree → A → Type 0) → (Trees → B → Type 0) → Trees
    → Option A → B → Type 0
OptCases tag Q R ts None b = Without tag ts × R ts b
OptCases tag Q R ts (Some x) b = Then Q R ts (x, b)

-- A value of Q where one of that tag is first, and then R (OPTIONAL).
pub record Opt {A B : Type 0} (tag : TagValue) (Q : Tree → A → Type 0) (R : Trees → B → Type 0)
    (ts : Trees) (x : Option A × B) : Type 0 where
  pub cases : OptCases tag Q R ts x.0 x.1

-- A value of Q where one of that tag is first, else a missing one that stands for a value, and then R (DEFAULT).
pub record Default {A B : Type 0} (tag : TagValue) (Q : Tree → A → Type 0) (missing : A)
    (R : Trees → B → Type 0) (ts : Trees) (x : A × B) : Type 0 where
  pub cases : (Without tag ts × (x.0 ≡ missing) × R ts x.1) ⊎ Then Q R ts x

abbrev pub ManyCases : {A : Type 0} → (Tree → A → Type 0) → Trees → List A → Type 0
ManyCases Q ts [] = ts ≡ none
ManyCases Q ts (x ∷ xs) = (t : Tree) × (us : Trees) × (ts ≡ more t us) × Q t x × ManyCases Q us xs

-- Values of Q, one for each of the list (SEQUENCE OF).
pub record Many {A : Type 0} (Q : Tree → A → Type 0) (ts : Trees) (xs : List A) : Type 0 where
  pub cases : ManyCases Q ts xs

-- A value has that tag where it is of Q.
pub record Tagged {A : Type 0} (tag : TagValue) (Q : Tree → A → Type 0) : Type 0 where
  pub tagged : (t : Tree) (x : A) → Q t x → tag_of t ≡ tag

-- A value is read in one way.
pub record One {A : Type 0} (Q : Tree → A → Type 0) : Type 0 where
  pub one : (t : Tree) (x y : A) → Q t x → Q t y → x ≡ y

-- Values are read in one way.
pub record OneAll {A : Type 0} (P : Trees → A → Type 0) : Type 0 where
  pub one : (ts : Trees) (x y : A) → P ts x → P ts y → x ≡ y

-- Content octets are read in one way.
pub record OneOctets {A : Type 0} (P : List ℕ → A → Type 0) : Type 0 where
  pub one : (content : List ℕ) (x y : A) → P content x → P content y → x ≡ y
