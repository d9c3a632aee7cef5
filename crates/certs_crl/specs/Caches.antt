-- The serial numbers of a list, kept aside.
use Rattle.std.specs.Prelude.{◌≡◌, ◌<◌, ◌↔◌, ℕ, List, Option, Some, None, Contains, MatchOption, length, slice_index}
use Rattle.std.specs.List.Sorted.{IsStrictlyIncreasing}
use Rattle.certs_x509.specs.Listed.{IsListed}
use Rattle.certs_x509.specs.resources_chain.Rows.{ProbesAtMost}
use Rattle.certs_x509.specs.certs_extension.CrlText.{RevokedValue}

-- The numbers of the list, each once, ascending.
pub record IsCache (entries : List RevokedValue) (cache : List ℕ) : Type 0 where
  pub rises : IsStrictlyIncreasing cache
  pub same : (n : ℕ) → Contains cache n ↔ IsListed entries n

-- Where numbers are kept, they are those of the list.
abbrev pub IsCached : List RevokedValue → Option (List ℕ) → Type 0
IsCached entries None = Unit {0}
IsCached entries (Some cache) = IsCache entries cache

-- The number was looked for among those that are kept: none is answered just where it isn't on the list, and else its place.
pub record IsLookedUp (entries : List RevokedValue) (n old new : ℕ) (place : Option ℕ)
    : Type 0 where
  pub cache : List ℕ
  pub kept : IsCache entries cache
  pub looks : ProbesAtMost (length cache) old new
  pub place_is : MatchOption place (IsListed entries n → ⊥)
      (λ k. (k < length cache) × (slice_index cache k ≡ n))

-- Nothing was looked for, nor found.
abbrev pub IsLeft : ℕ → ℕ → Option ℕ → Type 0
IsLeft old new place = (place ≡ None) × (new ≡ old)
