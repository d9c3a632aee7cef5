-- Revocation lists that are kept by their URIs.
use Rattle.std.specs.Prelude.{◌≡◌, ℕ, Bool, ◌||◌, List, [], ◌∷◌, ◌++◌}
use Rattle.certs_x509.specs.certs_extension.CrlText.{CrlValue}

-- The lists in the order in which they came, each with its URI, and whether serial numbers are kept aside.
pub record StoreValue : Type 0 where
  pub crls : List (List ℕ × CrlValue)
  pub caches : Bool

-- A list as it is stored: its serial numbers are kept aside where they were, and where the store keeps those of each.
abbrev pub as_stored : Bool → CrlValue → CrlValue
as_stored caches c = record c { caches = caches || c.caches }

-- No list came under that URI.
abbrev pub NoneUnder : List (List ℕ × CrlValue) → List ℕ → Type 0
NoneUnder [] uri = Unit {0}
NoneUnder (x ∷ xs) uri = (x.0 ≡ uri → ⊥) × NoneUnder xs uri

-- The first list that came under that URI.
pub record IsFirstUnder (crls : List (List ℕ × CrlValue)) (uri : List ℕ) (c : CrlValue)
    : Type 0 where
  pub before : List (List ℕ × CrlValue)
  pub behind : List (List ℕ × CrlValue)
  pub whole : crls ≡ before ++ (uri, c) ∷ behind
  pub first : NoneUnder before uri
