-- Lists of key identifiers.
use Rattle.std.specs.Prelude.{◌≢◌, ◌↔◌, ℕ, List, Contains, AllPairs}

-- No identifier occurs twice.
abbrev pub IsOnceEach : List (List ℕ) → Type 0
IsOnceEach keys = AllPairs (λ a b. a ≢ b) keys

-- Both have the same identifiers, in any order, and neither has one twice.
pub record AreSame (signers keys : List (List ℕ)) : Type 0 where
  pub signers_once : IsOnceEach signers
  pub keys_once : IsOnceEach keys
  pub same : (key : List ℕ) → Contains signers key ↔ Contains keys key
