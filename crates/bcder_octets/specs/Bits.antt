-- Bit strings, by their octets and their bits (X.690 8.6.2).
use Rattle.std.specs.Prelude.{◌≡◌, ℕ, ◌-◌, ◌*◌, ◌/◌, ◌%◌, ◌^◌, ◌<◌, ◌==◌, Bool, List, [], ◌∷◌, length, take, map}
use Rattle.std.specs.List.{flat_map}

-- The octets, and how many bits of the last one are unused.
pub record BitsValue : Type 0 where
  pub unused : ℕ
  pub octets : List ℕ

-- From 0 to 7 bits are unused (8.6.2.2), and none where there is no octet (8.6.2.3).
pub record IsBits (v : BitsValue) : Type 0 where
  pub few : v.unused < 8
  pub none : v.octets ≡ [] → v.unused ≡ 0

-- The bits of an octet, from bit 8, the highest, to bit 1 (8.6.2.1).
unfoldable pub octet_bits : ℕ → List Bool
octet_bits a = map (λ k. a / 2 ^ k % 2 == 1) (7 ∷ 6 ∷ 5 ∷ 4 ∷ 3 ∷ 2 ∷ 1 ∷ 0 ∷ [])

-- The bits of a bit string: those of its octets, in their order, but for the unused ones at the end.
unfoldable pub bits : BitsValue → List Bool
bits v = take (8 * length v.octets - v.unused) (flat_map octet_bits v.octets)
