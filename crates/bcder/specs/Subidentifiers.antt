-- Subidentifiers: numbers in octets of seven bits each (X.690 8.19.2).
use Rattle.std.specs.Prelude.{◌≡◌, ℕ, ◌+◌, ◌*◌, ◌%◌, ◌<◌, ◌≤◌, List, [], ◌∷◌, ◌++◌, All}

-- The number that the low seven bits of octets spell, the most significant first, after a number that was read before.
abbrev pub base128_behind : ℕ → List ℕ → ℕ
base128_behind before [] = before
base128_behind before (a ∷ v) = base128_behind (before * 128 + a % 128) v

abbrev pub base128 : List ℕ → ℕ
base128 v = base128_behind 0 v

-- One subidentifier: bit 8 is set on all but the last octet, and the low seven bits spell the number.
-- (That the first octet isn't `80`, so that the octets are the fewest, is no part of it: it isn't tested.)
pub record IsSubidentifier (octets : List ℕ) (n : ℕ) : Type 0 where
  pub front : List ℕ
  pub last : ℕ
  pub whole : octets ≡ front ++ last ∷ []
  pub more : All (λ a. 128 ≤ a) front
  pub ends : last < 128
  pub value : base128 octets ≡ n

-- The first octet isn't `80`.
abbrev pub IsShort : List ℕ → Type 0
IsShort [] = Unit {0}
IsShort (a ∷ v) = a ≡ 128 → ⊥

-- A subidentifier in the fewest octets, as 8.19.2 asks of those who write.
pub record IsShortest (octets : List ℕ) (n : ℕ) : Type 0 where
  pub is : IsSubidentifier octets n
  pub short : IsShort octets

-- Octets of Q for each of the numbers, one after the other.
abbrev pub InTurn : (List ℕ → ℕ → Type 0) → List ℕ → List ℕ → Type 0
InTurn Q octets [] = octets ≡ []
InTurn Q octets (n ∷ ns) =
    (first : List ℕ) × (rest : List ℕ) × (octets ≡ first ++ rest) × Q first n × InTurn Q rest ns
