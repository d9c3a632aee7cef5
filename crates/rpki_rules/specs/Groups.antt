-- Provisions gathered by customer.
use Rattle.std.specs.Prelude.{◌≡◌, ◌≢◌, List, [], ◌∷◌, ◌++◌, map, flat_map}
use Rattle.rpki_rules.specs.Attests.{Provision}
use Rattle.rpki_rules.specs.Lines.{Customer}

-- A customer with each of its providers.
abbrev pub provisions_of : Customer → List Provision
provisions_of c = map (λ p. record { customer = c.number; provider = p }) c.providers

-- Each customer has a provider.
abbrev pub AllSome : List Customer → Type 0
AllSome [] = Unit {0}
AllSome (c ∷ cs) = (c.providers ≢ []) × AllSome cs

abbrev pub DiffersFromNext : Customer → List Customer → Type 0
DiffersFromNext c [] = Unit {0}
DiffersFromNext c (d ∷ cs) = c.number ≢ d.number

-- No two customers that stand side by side have one number.
abbrev pub SideBySide : List Customer → Type 0
SideBySide [] = Unit {0}
SideBySide (c ∷ cs) = DiffersFromNext c cs × SideBySide cs

-- The customers of these provisions, in their order.
pub record Gathers (pairs : List Provision) (cs : List Customer) : Type 0 where
  pub whole : pairs ≡ flat_map provisions_of cs
  pub some : AllSome cs
  pub apart : SideBySide cs

-- With one provision more.
abbrev pub Adds : List Customer → Provision → List Customer → Type 0
Adds old p new = (pairs : List Provision) → Gathers pairs old → Gathers (pairs ++ p ∷ []) new
