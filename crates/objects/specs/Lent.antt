-- Octets that are lent, where there are any.
use Rattle.std.specs.Prelude.{ℕ, List, Option, Some, None}
use denote.Ref.{Bor}

abbrev pub lent_octets : Option (Bor (List ℕ)) → Option (List ℕ)
lent_octets None = None
lent_octets (Some octets) = Some octets.now
