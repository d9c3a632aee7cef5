-- Providers that are given one by one, in their order.
use Rattle.std.specs.Prelude.{◌≡◌, ◌≢◌, ℕ, ◌<◌, ◌≤◌, List, [], ◌∷◌, length, Option, Some, None}
use Rattle.objects_payload.specs.declared.aspa.run.Run.{Run}

-- A provider may stand after that one: it is greater, and none stands after AS 0.
abbrev pub MayFollow : Option ℕ → ℕ → Type 0
MayFollow None n = Unit {0}
MayFollow (Some m) n = (m ≢ 0) × (m < n)

-- Each provider may stand after the one before it, and none is the customer.
abbrev pub Follow : ℕ → Option ℕ → List ℕ → Type 0
Follow customer before [] = Unit {0}
Follow customer before (n ∷ ns) = MayFollow before n × (n ≢ customer) × Follow customer (Some n) ns

abbrev pub last_of : Option ℕ → List ℕ → Option ℕ
last_of before [] = before
last_of before (n ∷ ns) = last_of (Some n) ns

-- One provider more may stand after those that the run has.
pub record Admits (customer : ℕ) (run : Run) (n : ℕ) : Type 0 where
  pub few : run.count < 10000
  pub follows : MayFollow run.last n
  pub other : n ≢ customer

-- The run is the one of these providers.
pub record IsRunOf (customer : ℕ) (providers : List ℕ) (run : Run) : Type 0 where
  pub follow : Follow customer None providers
  pub count : length providers ≡ run.count
  pub few : run.count ≤ 10000
  pub last : last_of None providers ≡ run.last
