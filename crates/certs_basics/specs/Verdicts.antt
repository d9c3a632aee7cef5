-- Which signatures are good: handed in, and nothing else is known of it.
use Rattle.std.specs.Prelude.{◌≡◌, ℕ, Bool, true, List}
use Rattle.certs_basics.specs.Keys.{KeyValue}

-- By a key, whether NULL stands in the algorithm, the message, and the signature's octets.
abbrev pub Verdicts : Type 0
Verdicts = KeyValue → Bool → List ℕ → List ℕ → Bool

-- Each signature that is good by the first is good by the second.
abbrev pub Within : Verdicts → Verdicts → Type 0
Within v v' =
    (key : KeyValue) (has_null : Bool) (message signature : List ℕ)
    → v key has_null message signature ≡ true → v' key has_null message signature ≡ true
