-- What names say, one by one and so far.
use Rattle.std.specs.Prelude.{◌≡◌, ℕ, List, Option, Some, None}
use Rattle.certs_basics.specs.Lists.{Each}
use Rattle.certs_extension.specs.Names.{HasOneRsync}
use Rattle.certs_basics.specs.Uris.{IsRsync}

-- The rsync URI that a name is, if it is one.
abbrev pub NameSays : List ℕ → Option (List ℕ) → Type 0
NameSays name None = IsRsync name → ⊥
NameSays name (Some uri) = IsRsync name × (uri ≡ name)

-- The rsync URI among names of which at most one is one.
abbrev pub Seen : List (List ℕ) → Option (List ℕ) → Type 0
Seen names None = Each (λ name. IsRsync name → ⊥) names
Seen names (Some uri) = HasOneRsync names uri
