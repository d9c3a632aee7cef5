-- How a value begins and ends: the header in front of its content, and what comes after it (X.690 8.1.1 to 8.1.5).
use Rattle.std.specs.Prelude.{◌≡◌, ℕ, ◌+◌, Bool, true, false, List, [], ◌∷◌, ◌++◌, length, Option, Some}
use Rattle.bcder_content.specs.bcder_tree.declared.mode.Mode.{Mode}
use Rattle.bcder_content.specs.bcder_tree.declared.length.Length.{Length}
use Rattle.bcder_content.specs.bcder_tree.declared.length.Length.TheVariants.{Definite as LengthIs, Indefinite as NoLength}
use Rattle.bcder_content.specs.bcder_tree.Tags.{TagValue, IsTag}
use Rattle.bcder_content.specs.bcder_tree.Octets.{IsIdentifier}
use Rattle.bcder_content.specs.bcder_tree.Lengths.{SpellsLength}
use Rattle.bcder_content.specs.bcder_tree.Tree.{Tree, primitive, constructed, IsHeader, HasDefinite, HasIndefinite}
use Rattle.bcder_content.specs.bcder_tree.Front.{Front}
use Rattle.bcder_source.specs.Views.{View, left, more_limit, Moved}
use Rattle.bcder_content.specs.declared.ending.Ending.{Ending}
use Rattle.bcder_content.specs.declared.ending.Ending.TheVariants.{Definite, Indefinite, Unbounded}
use Rattle.bcder_content.specs.declared.ending.Span.{Span}
use Rattle.bcder_content.specs.declared.ending.Span.TheVariants.{Until, ToEnd}

-- Tag and form of a value.
abbrev pub tag_of : Tree → TagValue
tag_of (primitive t v) = t
tag_of (constructed t ts) = t

abbrev pub form_of : Tree → Bool
form_of (primitive t v) = false
form_of (constructed t ts) = true

-- Identifier octets, and length octets of either form, one after the other.
pub record IsHead (m : Mode) (octets : List ℕ) (form : Bool) (t : TagValue) (l : Length)
    : Type 0 where
  pub identifier : List ℕ
  pub size : List ℕ
  pub whole : octets ≡ identifier ++ size
  pub tag : IsTag t
  pub identifier_is : IsIdentifier identifier form t
  pub size_is : SpellsLength m l size

-- So a value begins: by its header's octets, at a limit, the limit on its content is the inner one.
abbrev pub OpensBy : Mode → Option ℕ → List ℕ → Bool → TagValue → Span → Option ℕ → Type 0
OpensBy m limit text form t (Until outer) inner =
    (form ≡ true → HasDefinite m) × ((n : ℕ) × IsHeader m text form t n × (inner ≡ Some n)
    × (limit ≡ more_limit (length text + n) outer))
OpensBy m limit text form t ToEnd inner =
    (form ≡ true) × HasIndefinite m × ((identifier : List ℕ) × IsTag t
    × IsIdentifier identifier true t × (text ≡ identifier ++ (128 ∷ [])))
    × (limit ≡ more_limit (length text) inner)

-- The header of a value of that form and tag was read: from then on its content is what may be read.
pub record Opens (m : Mode) (old : View) (form : Bool) (t : TagValue) (span : Span) (inner : View)
    : Type 0 where
  pub text : List ℕ
  pub rest : old.rest ≡ text ++ inner.rest
  pub how : OpensBy m old.limit text form t span inner.limit

-- The content has ended, and reading is past the value: where its octets were counted, with the limit around it; else
-- after end-of-contents.
abbrev pub Closes : Span → View → View → Type 0
Closes (Until outer) end new =
    (end.limit ≡ Some 0) × (new ≡ record { rest = end.rest; limit = outer })
Closes ToEnd end new = Moved end (0 ∷ 0 ∷ []) new

-- Where a content ends: after so many octets (8.1.3.3), before end-of-contents (8.1.3.6, 8.1.5), or with the source.
abbrev pub EndsHere : Ending → View → Type 0
EndsHere Definite v = v.limit ≡ Some 0
EndsHere Indefinite v = (w : View) × Moved v (0 ∷ 0 ∷ []) w
EndsHere Unbounded v = left v ≡ []

-- How a content with that span ends.
abbrev pub ending_of : Span → Ending
ending_of (Until outer) = Definite
ending_of ToEnd = Indefinite

-- No value is in front.
pub record NoValue (m : Mode) (v : View) : Type 0 where
  pub none : (t : Tree) (rest : List ℕ) → Front m (left v) t rest → ⊥

-- A header of so many octets is in front.
pub record Heads (m : Mode) (form : Bool) (t : TagValue) (l : Length) (count : ℕ) (octets : List ℕ)
    : Type 0 where
  pub text : List ℕ
  pub rest : List ℕ
  pub head : IsHead m text form t l
  pub whole : octets ≡ text ++ rest
  pub long : length text ≡ count

-- No header is in front.
pub record NoHead (m : Mode) (octets : List ℕ) : Type 0 where
  pub none : (form : Bool) (t : TagValue) (l : Length) (text rest : List ℕ) → IsHead m text form t l
      → octets ≡ text ++ rest → ⊥

-- A value with such a header ends so, under that limit.
abbrev pub Starts : Mode → Option ℕ → Bool → Length → ℕ → Span → Type 0
Starts m limit form (LengthIs n) count (Until outer) =
    (form ≡ true → HasDefinite m) × (limit ≡ more_limit (count + n) outer)
Starts m limit form (LengthIs n) count ToEnd = ⊥
Starts m limit form NoLength count (Until outer) = ⊥
Starts m limit form NoLength count ToEnd = (form ≡ true) × HasIndefinite m

-- Identifier octets of that tag are in front (8.1.2).
pub record OfTag (t : TagValue) (octets : List ℕ) : Type 0 where
  pub form : Bool
  pub identifier : List ℕ
  pub rest : List ℕ
  pub tag : IsTag t
  pub is : IsIdentifier identifier form t
  pub whole : octets ≡ identifier ++ rest

-- Identifier octets of another tag are in front.
pub record OfOther (t : TagValue) (octets : List ℕ) : Type 0 where
  pub tag : TagValue
  pub apart : tag ≡ t → ⊥
  pub front : OfTag tag octets

-- No identifier octets of a value are in front.
pub record NoTag (octets : List ℕ) : Type 0 where
  pub none : (t : TagValue) → OfTag t octets → ⊥
