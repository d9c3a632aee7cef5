-- Which content octets are those of an OBJECT IDENTIFIER (X.690 8.19), the same in every mode.
use Rattle.std.specs.Prelude.{◌≡◌, ℕ, ◌<◌, List, [], ◌∷◌, ◌++◌}
use Rattle.bcder.specs.Subidentifiers.{InTurn, IsSubidentifier}

-- One or more octets, of which the last has bit 8 clear. Just these are one or more subidentifiers, one after the
-- other (8.19.2).
pub record IsIdentifier (octets : List ℕ) : Type 0 where
  pub front : List ℕ
  pub last : ℕ
  pub whole : octets ≡ front ++ last ∷ []
  pub ends : last < 128

-- Content octets of an identifier, which means its octets.
pub record IsOid (content octets : List ℕ) : Type 0 where
  pub same : content ≡ octets
  pub is : IsIdentifier content

-- Content octets of an identifier, whichever.
pub record IsAnyOid (content : List ℕ) (x : Unit {0}) : Type 0 where
  pub is : IsIdentifier content

-- Content octets that are just these.
pub record AreOctets (octets content : List ℕ) (x : Unit {0}) : Type 0 where
  pub same : content ≡ octets

-- Such octets are one or more subidentifiers, one after the other.
abbrev pub AreSubidentifiers : List ℕ → Type 0
AreSubidentifiers octets = (n : ℕ) × (ns : List ℕ) × InTurn IsSubidentifier octets (n ∷ ns)
