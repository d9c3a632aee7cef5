-- What may still be read of a source under a limit, and the law of reading from it.
use Rattle.std.specs.Prelude.{◌≡◌, ℕ, ◌+◌, List, [], ◌∷◌, ◌++◌, length, take, Option, Some, None}

-- The rest of a source, and how many octets of it may still be read.
pub record View : Type 0 where
  pub rest : List ℕ
  pub limit : Option ℕ

-- The octets up to a limit.
abbrev pub limited : Option ℕ → List ℕ → List ℕ
limited None octets = octets
limited (Some n) octets = take n octets

-- The octets that may be read.
abbrev pub left : View → List ℕ
left v = limited v.limit v.rest

-- A limit after n more octets.
abbrev pub more_limit : ℕ → Option ℕ → Option ℕ
more_limit n None = None
more_limit n (Some m) = Some (n + m)

-- The law of reading: what was consumed stood in front of the rest, and the limit fell by its length.
pub record Moved (old : View) (text : List ℕ) (new : View) : Type 0 where
  pub rest : old.rest ≡ text ++ new.rest
  pub limit : old.limit ≡ more_limit (length text) new.limit

-- The octets of a source in memory that are left, and how many were taken before.
pub record Reading : Type 0 where
  pub rest : List ℕ
  pub position : ℕ

-- The next octet, if there is one.
abbrev pub NextOctet : Option ℕ → List ℕ → List ℕ → Type 0
NextOctet None old new = (old ≡ []) × (new ≡ [])
NextOctet (Some octet) old new = old ≡ octet ∷ new

-- The octets that were taken with it.
abbrev pub octets_of : Option ℕ → List ℕ
octets_of None = []
octets_of (Some octet) = octet ∷ []
