-- Exact readers: what they read is in the grammar, and what is in the grammar they read.
use Rattle.std.specs.Prelude.{◌≡◌, ℕ, false, List, Result, Ok, Err, Option, Some, None}
use Rattle.bcder_content.specs.bcder_tree.declared.mode.Mode.{Mode}
use Rattle.bcder_content.specs.bcder_tree.Tags.{TagValue}
use Rattle.bcder_content.specs.bcder_tree.Front.{Front}
use Rattle.bcder_content.specs.bcder_tree.Tree.{Tree, Trees}
use Rattle.bcder_content.specs.bcder_source.Errors.{OnContent}
use Rattle.bcder_content.specs.bcder_source.declared.error.DecodeError.{DecodeError}
use Rattle.bcder_content.specs.bcder_source.Views.{left}
use Rattle.bcder_content.specs.Openings.{OfOther}
use Rattle.bcder_content.specs.Contents.{ValuesLeft, octets, Took, TookAll, Ahead, Ended, Whole, Unlike, tag_of}

-- The next value was read, and it is of the grammar.
pub record Gives {A : Type 0} (P : Tree → A → Type 0) (old : ValuesLeft) (x : A) (new : ValuesLeft)
    : Type 0 where
  pub tree : Tree
  pub is : P tree x
  pub took : Took old tree new

-- No value of the grammar is next.
pub record Lacks {A : Type 0} (P : Tree → A → Type 0) (old : ValuesLeft) : Type 0 where
  pub none : (t : Tree) (x : A) → P t x → Ahead old t → ⊥

-- A reader of one value, by what its answer means.
abbrev pub ReadsAs : {A B E : Type 0} → (A → B) → (Tree → B → Type 0) → ValuesLeft
    → Result A (DecodeError E) → ValuesLeft → Type 0
ReadsAs f P old (Ok x) new = Gives P old (f x) new
ReadsAs f P old (Err e) new = OnContent e (Lacks P old)

-- The next identifier octets aren't of another tag, but no value of the grammar is next.
pub record LacksTagged {A : Type 0} (tag : TagValue) (P : Tree → A → Type 0) (old : ValuesLeft)
    : Type 0 where
  pub tagged : (t : Tree) → Ahead old t → tag_of t ≡ tag
  pub lacks : Lacks P old
  pub goes_on : Ended old → ⊥
  pub other : old.failed ≡ false → OfOther tag (left (octets old)) → ⊥

-- A reader of an optional value, which is there where its tag is next.
abbrev pub ReadsOptAs : {A B E : Type 0} → (A → B) → TagValue → (Tree → B → Type 0) → ValuesLeft
    → Result (Option A) (DecodeError E) → ValuesLeft → Type 0
ReadsOptAs f tag P old (Ok (Some x)) new = Gives P old (f x) new
ReadsOptAs f tag P old (Ok None) new = (new ≡ old) × Unlike old tag
ReadsOptAs f tag P old (Err e) new = OnContent e (LacksTagged tag P old)

-- A reader of the next value, if there is one.
abbrev pub ReadsNextAs : {A B E : Type 0} → (A → B) → (Tree → B → Type 0) → ValuesLeft
    → Result (Option A) (DecodeError E) → ValuesLeft → Type 0
ReadsNextAs f P old (Ok (Some x)) new = Gives P old (f x) new
ReadsNextAs f P old (Ok None) new = (new ≡ old) × Ended old
ReadsNextAs f P old (Err e) new = OnContent e (Lacks P old × (Ended old → ⊥))

-- What is left of the content are no values of the grammar.
pub record LacksAll {A : Type 0} (P : Trees → A → Type 0) (old : ValuesLeft) : Type 0 where
  pub none : (ts : Trees) (x : A) → P ts x → Whole old ts → ⊥

-- Values of the grammar were read; where the content goes on after them, as a whole it isn't of the grammar.
pub record GivesAll {A : Type 0} (P : Trees → A → Type 0) (old : ValuesLeft) (x : A)
    (new : ValuesLeft) : Type 0 where
  pub trees : Trees
  pub took : TookAll old trees new
  pub is : P trees x
  pub only : (Ended new → ⊥) → LacksAll P old

-- A reader of a whole content, whose end is tested afterwards.
abbrev pub ReadsAllAs : {A B E : Type 0} → (A → B) → (Trees → B → Type 0) → ValuesLeft
    → Result A (DecodeError E) → ValuesLeft → Type 0
ReadsAllAs f P old (Ok x) new = GivesAll P old (f x) new
ReadsAllAs f P old (Err e) new = OnContent e (LacksAll P old)

-- A reader of the value in front of octets, by what its answer means; what comes after the value isn't read.
abbrev pub DecodesAs : {A B E : Type 0} → (A → B) → Mode → (Tree → B → Type 0) → List ℕ
    → Result A (DecodeError E) → Type 0
DecodesAs f m P octets (Ok x) = (t : Tree) × (rest : List ℕ) × Front m octets t rest × P t (f x)
DecodesAs {A} {B} f m P octets (Err e) =
    OnContent e ((t : Tree) (x : B) (rest : List ℕ) → P t x → Front m octets t rest → ⊥)
