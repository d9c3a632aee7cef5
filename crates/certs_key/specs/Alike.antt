-- Equality of keys.
use Rattle.std.specs.Prelude.{ℕ, Bool, List, ◌∷◌, nat_eq}
use Rattle.std.specs.Cmp.Lexicographic.{pointwise}
use Rattle.certs_key.specs.certs_basics.declared.PublicKeyFormat.{PublicKeyFormat}
use Rattle.certs_key.specs.certs_basics.declared.PublicKeyFormat.TheVariants.{Rsa, Ecdsa}
use Rattle.certs_key.specs.certs_basics.Keys.{KeyValue}

-- The algorithm as a number.
abbrev pub format_number : PublicKeyFormat → ℕ
format_number Rsa = 0
format_number Ecdsa = 1

-- The algorithm, how many bits are unused, and the octets of the bits, as one list.
abbrev pub parts_of : KeyValue → List ℕ
parts_of k = format_number k.format ∷ k.bits.unused ∷ k.bits.octets

-- All of them are equal.
abbrev pub keys_eq : KeyValue → KeyValue → Bool
keys_eq x y = pointwise nat_eq (parts_of x) (parts_of y)
