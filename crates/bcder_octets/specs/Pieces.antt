-- Octets that spell segments, as the primitive values in them, in their order.
use Rattle.std.specs.Prelude.{◌≡◌, ℕ, ◌<◌, ◌≤◌, ◌⊎◌, Bool, true, false, List, [], ◌∷◌, ◌++◌, length, Option, Some, None}
use Rattle.bcder_octets.specs.bcder_tree.declared.mode.Mode.TheVariants.{Ber}
use Rattle.bcder_octets.specs.bcder_tree.declared.length.Length.{Length}
use Rattle.bcder_octets.specs.bcder_tree.Tags.{TagValue}
use Rattle.bcder_octets.specs.bcder_tree.Tree.{Trees, primitive, none, more, IsHeader}
use Rattle.bcder_octets.specs.bcder_tree.Strings.{octet_string_tag, AreCerSegments}
use Rattle.bcder_octets.specs.bcder_content.Openings.{IsHead, Heads}
use Rattle.bcder_octets.specs.declared.pieces.Item.{Item}
use Rattle.bcder_octets.specs.declared.pieces.Item.TheVariants.{Piece, Around, End}

-- A header of so many octets is in front, of a value of that form.
abbrev pub IsHeaded : Bool → Length → ℕ → List ℕ → Type 0
IsHeaded form l count octets = (t : TagValue) × Heads Ber form t l count octets

-- What stands around primitive values: the header of a constructed one, or end-of-contents (X.690 8.1.5).
abbrev pub IsAround : List ℕ → Type 0
IsAround text = (text ≡ 0 ∷ 0 ∷ []) ⊎ ((t : TagValue) × (l : Length) × IsHead Ber text true t l)

-- Octets of values, as a row of marks: a primitive value by its content, or what stands around such.
pub data Mark : Type 0 where
  holds : List ℕ → Mark
  around : Mark

abbrev pub Marks : List Mark → List ℕ → Type 0
Marks [] octets = octets ≡ []
Marks (holds content ∷ marks) octets =
    (header : List ℕ) × (rest : List ℕ) × (octets ≡ header ++ (content ++ rest))
    × ((t : TagValue) × IsHeader Ber header false t (length content)) × Marks marks rest
Marks (around ∷ marks) octets =
    (text : List ℕ) × (rest : List ℕ) × (octets ≡ text ++ rest) × IsAround text × Marks marks rest

abbrev pub held : List Mark → List (List ℕ)
held [] = []
held (holds content ∷ marks) = content ∷ held marks
held (around ∷ marks) = held marks

-- The octets hold primitive values with these contents, in this order.
pub record Holds (pieces : List (List ℕ)) (octets : List ℕ) : Type 0 where
  pub marks : List Mark
  pub is : Marks marks octets
  pub whole : pieces ≡ held marks

-- The first piece, and what comes after it holds the others.
pub record NextPiece (pieces : List (List ℕ)) (piece behind : List ℕ) : Type 0 where
  pub others : List (List ℕ)
  pub whole : pieces ≡ piece ∷ others
  pub holds_others : Holds others behind

-- What stands in front of octets that hold these pieces.
abbrev pub StepsTo : List (List ℕ) → Item → Type 0
StepsTo pieces (Piece piece behind) = NextPiece pieces piece.now behind.now
StepsTo pieces (Around behind) = Holds pieces behind.now
StepsTo pieces End = pieces ≡ []

-- Fewer octets come after it.
abbrev pub IsShorter : List ℕ → Item → Type 0
IsShorter octets (Piece piece behind) = length behind.now < length octets
IsShorter octets (Around behind) = length behind.now < length octets
IsShorter octets End = Unit {0}

-- All of them are primitive OCTET STRINGs, with these contents.
abbrev pub ArePlain : Trees → List (List ℕ) → Type 0
ArePlain none pieces = pieces ≡ []
ArePlain (more t ts) pieces =
    (content : List ℕ) × (others : List (List ℕ)) × (t ≡ primitive octet_string_tag content)
    × (pieces ≡ content ∷ others) × ArePlain ts others

-- Such a piece may come after one of so many octets: that has 1000, and this has 1 to 1000 (9.2).
abbrev pub MayStand : ℕ → List ℕ → Type 0
MayStand before piece = (before ≡ 1000) × (1 ≤ length piece) × (length piece ≤ 1000)

-- These pieces may come after one of so many octets: each has 1 to 1000 octets, and all but the last 1000 (9.2).
abbrev pub CutIn : ℕ → List (List ℕ) → Type 0
CutIn before [] = Unit {0}
CutIn before (piece ∷ pieces) = MayStand before piece × CutIn (length piece) pieces

-- Segments in CER of a string with more than 1000 octets, or of none (9.2).
abbrev pub TellsCut : {V : Type 0} → (V → List ℕ) → Trees → Option V → Type 0
TellsCut f ts (Some v) = AreCerSegments ts (f v) × (1000 < length (f v))
TellsCut f ts None = (v : List ℕ) → AreCerSegments ts v → 1000 < length v → ⊥
