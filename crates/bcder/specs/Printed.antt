-- How object identifiers are printed: components in decimal digits, with dots (46) between them.
use Rattle.std.specs.Prelude.{ℕ, ◌^◌, nat_lt, if◌then◌else◌, List, [], ◌∷◌, ◌++◌, map, codes}
use Rattle.std.specs.Fmt.{decimal}
use Rattle.std.specs.List.{join_with_byte}
use Rattle.bcder.specs.Components.{components_of}

-- A component of 32 bits in decimal digits; of a greater one only that it is there.
abbrev pub component_text : ℕ → List ℕ
component_text n = if nat_lt n (2 ^ 32) then decimal n else codes "(not implemented)"

abbrev pub oid_text : List ℕ → List ℕ
oid_text octets = join_with_byte 46 (map component_text (components_of octets))

-- Components, each after a dot.
abbrev pub behind_dots : List ℕ → List ℕ
behind_dots [] = []
behind_dots (n ∷ ns) = 46 ∷ (component_text n ++ behind_dots ns)
