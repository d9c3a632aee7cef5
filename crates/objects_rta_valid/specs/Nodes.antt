-- Certificates as far as paths know them: by key identifiers (RFC 6487 4.8.1 to 4.8.3).
use Rattle.std.specs.Prelude.{◌≡◌, ◌⊎◌, ℕ, Bool, List, Option, Some, None, map}
use Rattle.std.specs.Borrow.{Bor}

-- The subject key identifier (RFC 6487 4.8.2), the authority key identifier, if there is one (4.8.3), and whether it is an
-- authority's certificate (4.8.1).
pub record Node : Type 0 where
  pub subject : List ℕ
  pub authority : Option (List ℕ)
  pub issues : Bool

-- c is below p: its authority key identifier is p's subject key identifier.
abbrev pub IsBelow : Node → Node → Type 0
IsBelow c p = c.authority ≡ Some p.subject

-- It names no authority, or itself.
abbrev pub IsSelfSigned : Node → Type 0
IsSelfSigned c = (c.authority ≡ None) ⊎ IsBelow c c

-- Octets that are lent, where there are any; and those of each of a list.
abbrev pub lent_octets : Option (Bor (List ℕ)) → Option (List ℕ)
lent_octets None = None
lent_octets (Some octets) = Some octets.now

abbrev pub each_octets : List (Bor (List ℕ)) → List (List ℕ)
each_octets lent = map (λ octets. octets.now) lent
