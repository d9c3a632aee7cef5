-- Pieces of JSON texts (RFC 8259).
use Rattle.std.specs.Prelude.{ℕ, Bool, true, false, ◌==◌, ◌||◌, if◌then◌else◌, List, [], ◌∷◌, ◌++◌, codes, flat_map}
use Rattle.std.specs.List.{join_by}

-- An octet of a string: a backslash (92) stands in front of a quotation mark (34) and of a backslash.
abbrev pub escaped : ℕ → List ℕ
escaped octet = if (octet == 34) || (octet == 92) then 92 ∷ octet ∷ [] else octet ∷ []

-- A string of printable octets.
abbrev pub json_string : List ℕ → List ℕ
json_string octets = 34 ∷ (flat_map escaped octets ++ 34 ∷ [])

-- An array: [ (91), values with a comma (44) between them, and ] (93).
abbrev pub json_array : {X : Type 0} → (X → List ℕ) → List X → List ℕ
json_array value xs = 91 ∷ (join_by value (44 ∷ []) xs ++ 93 ∷ [])

abbrev pub json_bool : Bool → List ℕ
json_bool true = codes "true"
json_bool false = codes "false"
