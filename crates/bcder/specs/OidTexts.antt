-- Texts of object identifiers: components in decimal digits, with dots (46) between them.
use Rattle.std.specs.Prelude.{◌≡◌, ◌≢◌, ℕ, ◌^◌, ◌<◌, ◌≤◌, List, [], ◌∷◌, ◌++◌, length, All}
use Rattle.std.specs.Str.Parse.{IsNumeral, digits_value, without_leading_plus}
use Rattle.bcder.specs.Subidentifiers.{base128, IsShort, InTurn, IsShortest}
use Rattle.bcder.specs.Components.{AreComponents}
use Rattle.bcder.specs.declared.oid.text.ParseOidError.{ParseOidError}
use Rattle.bcder.specs.declared.oid.text.ParseOidError.TheVariants.{TooFew, Component, First, Second, Memory}

-- Decimal digits of a number of 32 bits; zeros or one plus may stand in front.
pub record IsComponentText (text : List ℕ) (n : ℕ) : Type 0 where
  pub numeral : IsNumeral 10 (without_leading_plus text)
  pub value : digits_value 10 (without_leading_plus text) ≡ n
  pub fits : n < 2 ^ 32

-- The texts of one or more numbers, with dots between them.
abbrev pub IsDotted : List ℕ → List ℕ → Type 0
IsDotted text [] = ⊥
IsDotted text (n ∷ []) = IsComponentText text n
IsDotted text (n ∷ m ∷ ns) =
    (first : List ℕ) × (rest : List ℕ) × (text ≡ first ++ 46 ∷ rest) × IsComponentText first n
    × IsDotted rest (m ∷ ns)

-- Two or more components; the first is at most 2, and the second below 40 where the first is 0 or 1.
abbrev pub MayBegin : List ℕ → Type 0
MayBegin [] = ⊥
MayBegin (x ∷ []) = ⊥
MayBegin (x ∷ y ∷ cs) = (x ≤ 2) × (x < 2 → y < 40)

-- The text of an identifier with these components.
pub record IsOidText (text cs : List ℕ) : Type 0 where
  pub dotted : IsDotted text cs
  pub begins : MayBegin cs

-- The octets of these components, the fewest.
pub record Spells (octets cs : List ℕ) : Type 0 where
  pub numbers : List ℕ
  pub spelled : InTurn IsShortest octets numbers
  pub components : AreComponents numbers cs

-- The octets of the identifier of a text.
pub record ReadsText (text octets : List ℕ) : Type 0 where
  pub components : List ℕ
  pub text_is : IsOidText text components
  pub octets_are : Spells octets components

-- A fact for each refusal but lack of memory.
abbrev pub OnRefused : ParseOidError → Type 0 → Type 0
OnRefused Memory fact = Unit {0}
OnRefused other fact = fact

-- The first test that two numbers fail in front of others: the first is above 2, or it is below and the second above 39.
abbrev pub FrontRefused : ParseOidError → ℕ → ℕ → Type 0
FrontRefused TooFew x y = ⊥
FrontRefused Component x y = ⊥
FrontRefused First x y = 2 < x
FrontRefused Second x y = (x < 2) × (40 ≤ y)
FrontRefused Memory x y = ⊥

-- The first test that numbers fail: they are two at least, and the first two may stand in front.
abbrev pub NumbersRefused : ParseOidError → List ℕ → Type 0
NumbersRefused TooFew ns = length ns < 2
NumbersRefused Component ns = ⊥
NumbersRefused First ns = (x : ℕ) × (y : ℕ) × (ms : List ℕ) × (ns ≡ x ∷ y ∷ ms) × (2 < x)
NumbersRefused Second ns =
    (x : ℕ) × (y : ℕ) × (ms : List ℕ) × (ns ≡ x ∷ y ∷ ms) × (x < 2) × (40 ≤ y)
NumbersRefused Memory ns = Unit {0}

-- The first test that a text fails. It is of numbers with dots between them; they are two at least; the first is at most
-- 2; and the second is below 40 where the first is 0 or 1. No text fails two of them so.
abbrev pub WhyRefused : ParseOidError → List ℕ → Type 0
WhyRefused TooFew text = (n : ℕ) × IsDotted text (n ∷ [])
WhyRefused Component text = (ns : List ℕ) → IsDotted text ns → ⊥
WhyRefused First text = (x : ℕ) × (y : ℕ) × (ns : List ℕ) × IsDotted text (x ∷ y ∷ ns) × (2 < x)
WhyRefused Second text =
    (x : ℕ) × (y : ℕ) × (ns : List ℕ) × IsDotted text (x ∷ y ∷ ns) × (x < 2) × (40 ≤ y)
WhyRefused Memory text = Unit {0}

-- No dot stands in the text.
abbrev pub LacksDot : List ℕ → Type 0
LacksDot text = All (λ a. a ≢ 46) text

-- All of a text without a dot; and what is in front of the first dot, and after it.
pub record IsLastPiece (text front : List ℕ) : Type 0 where
  pub same : front ≡ text
  pub last : LacksDot text

pub record IsFirstPiece (text front behind : List ℕ) : Type 0 where
  pub whole : text ≡ front ++ 46 ∷ behind
  pub first : LacksDot front

-- The octets of a subidentifier but the last: with bit 8 set, and the fewest for their number.
pub record HighOctets (octets : List ℕ) (n : ℕ) : Type 0 where
  pub more : All (λ a. 128 ≤ a) octets
  pub value : base128 octets ≡ n
  pub short : IsShort octets
