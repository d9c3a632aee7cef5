-- What a list of names says, and fields that mean one of their parts.
use Rattle.std.specs.Prelude.{◌≡◌, ℕ, List, ◌∷◌, ◌++◌}
use Rattle.certs_basics.specs.Lists.{Each}
use Rattle.certs_basics.specs.Uris.{IsRsync}

-- Of the names one, and one alone, is an rsync URI.
pub record HasOneRsync (names : List (List ℕ)) (uri : List ℕ) : Type 0 where
  pub before : List (List ℕ)
  pub behind : List (List ℕ)
  pub whole : names ≡ before ++ uri ∷ behind
  pub readable : IsRsync uri
  pub none_before : Each (λ name. IsRsync name → ⊥) before
  pub none_behind : Each (λ name. IsRsync name → ⊥) behind

-- One alone in a SEQUENCE, and what it means.
abbrev pub only : {A : Type 0} → A × Unit {0} → A
only x = x.0

-- A known identifier, and what is after it.
abbrev pub behind : {A : Type 0} → Unit {0} × A → A
behind x = x.1
