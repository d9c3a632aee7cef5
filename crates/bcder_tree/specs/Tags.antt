-- Tags: a class and a number (X.680 clause 8, X.690 8.1.2.2).
use Rattle.std.specs.Prelude.{ℕ, ◌+◌, ◌<◌}

-- The classes are 0 universal, 1 application, 2 context-specific, 3 private.
pub record TagValue : Type 0 where
  pub class : ℕ
  pub number : ℕ

abbrev pub universal : ℕ → TagValue
universal n = record { class = 0; number = n }

abbrev pub context : ℕ → TagValue
context n = record { class = 2; number = n }

-- A tag that values have: of one of the four classes, and not universal 0, which closes a content of indefinite length.
abbrev pub IsTag : TagValue → Type 0
IsTag t = (t.class < 4) × (0 < t.class + t.number)

-- The tags of the types that are named in clauses (X.680 8.4, table 1).
abbrev pub boolean_tag : TagValue
boolean_tag = universal 1

abbrev pub integer_tag : TagValue
integer_tag = universal 2

abbrev pub octet_string_tag : TagValue
octet_string_tag = universal 4

abbrev pub null_tag : TagValue
null_tag = universal 5

abbrev pub oid_tag : TagValue
oid_tag = universal 6

abbrev pub utf8_string_tag : TagValue
utf8_string_tag = universal 12

abbrev pub sequence_tag : TagValue
sequence_tag = universal 16

abbrev pub set_tag : TagValue
set_tag = universal 17

abbrev pub printable_string_tag : TagValue
printable_string_tag = universal 19

abbrev pub ia5_string_tag : TagValue
ia5_string_tag = universal 22

abbrev pub utc_time_tag : TagValue
utc_time_tag = universal 23

abbrev pub generalized_time_tag : TagValue
generalized_time_tag = universal 24
