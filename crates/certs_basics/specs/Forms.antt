-- Times as values of trees: UTCTime and GeneralizedTime, validity, and what is written (X.680 46, 47; RFC 5280 4.1.2.5).
use Rattle.std.specs.Prelude.{◌≡◌, ℕ, ◌<◌, ◌≤◌, ◌%◌, ◌&&◌, if◌then◌else◌, nat_le, nat_lt, List, [], ◌∷◌, ◌++◌, drop}
use Rattle.certs_basics.specs.bcder_tree.Tags.{TagValue, generalized_time_tag, sequence_tag, utc_time_tag}
use Rattle.certs_basics.specs.bcder_tree.Tree.{Tree, Trees, primitive}
use Rattle.certs_basics.specs.bcder_content.Grammar.{Inside, OctetsOf, OneOf, Then, End}
use Rattle.certs_basics.specs.Times.{Civil, IsReal, seconds_of, digits, moment_text, IsMoment}
use Rattle.certs_basics.specs.declared.time.text.Form.{Form}
use Rattle.certs_basics.specs.declared.time.text.Form.TheVariants.{Utc, Generalized}

-- YYMMDDHHMMSSZ, of the years 1950 to 2049 (RFC 5280 4.1.2.5.1); 90 is `Z`.
abbrev pub short_text : Civil → List ℕ
short_text c = digits 2 (c.year % 100) ++ digits 2 c.month ++ digits 2 c.day ++ digits 2 c.hour ++ digits 2 c.minute ++ digits 2 c.second ++ 90 ∷ []

abbrev pub IsShortYear : ℕ → Type 0
IsShortYear year = (1950 ≤ year) × (year < 2050)

pub record IsShortMoment (text : List ℕ) (seconds : ℕ) : Type 0 where
  pub civil : Civil
  pub real : IsReal civil
  pub year : IsShortYear civil.year
  pub text_is : text ≡ short_text civil
  pub seconds_are : seconds ≡ seconds_of civil

-- Time ::= CHOICE { utcTime UTCTime, generalTime GeneralizedTime }, both primitive in every mode (RFC 5280 4.1)
abbrev pub IsTime : Tree → ℕ → Type 0
IsTime = OneOf (OctetsOf utc_time_tag IsShortMoment) (OctetsOf generalized_time_tag IsMoment)

-- Validity ::= SEQUENCE { notBefore Time, notAfter Time } (RFC 5280 4.1.2.5)
abbrev pub IsValidityBody : Trees → ℕ × (ℕ × Unit {0}) → Type 0
IsValidityBody = Then IsTime (Then IsTime End)

abbrev pub IsValidity : Tree → ℕ × (ℕ × Unit {0}) → Type 0
IsValidity = Inside sequence_tag IsValidityBody

-- What is written of a moment: UTCTime from 1950 through 2049, GeneralizedTime before and after (RFC 5280 4.1.2.5).
abbrev pub time_tree : Civil → Tree
time_tree c = if nat_le 1950 c.year && nat_le c.year 2049 then primitive utc_time_tag (short_text c) else primitive generalized_time_tag (moment_text c)

pub record WritesTime (seconds : ℕ) (t : Tree) : Type 0 where
  pub civil : Civil
  pub real : IsReal civil
  pub seconds_are : seconds ≡ seconds_of civil
  pub tree_is : t ≡ time_tree civil

-- A form's tag, how many octets it has, and which moment they tell.
abbrev pub tag_of : Form → TagValue
tag_of Utc = utc_time_tag
tag_of Generalized = generalized_time_tag

abbrev pub length_of : Form → ℕ
length_of Utc = 13
length_of Generalized = 15

abbrev pub Tells : Form → List ℕ → ℕ → Type 0
Tells Utc = IsShortMoment
Tells Generalized = IsMoment

-- A moment's text in the form, by its text in GeneralizedTime: UTCTime leaves the century out.
abbrev pub text_in : Form → List ℕ → List ℕ
text_in Utc whole = drop 2 whole
text_in Generalized whole = whole

-- The text of a UTCTime with its year's century in front: 50 to 99 (from `5`, 53, on) are of the years 1950 to 1999.
abbrev pub with_century_of : List ℕ → List ℕ
with_century_of [] = []
with_century_of (c ∷ text) = if nat_lt c 53 then 50 ∷ 48 ∷ c ∷ text else 49 ∷ 57 ∷ c ∷ text
