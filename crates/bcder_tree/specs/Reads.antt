-- What stands in front of octets, and how many octets it takes.
use Rattle.std.specs.Prelude.{◌≡◌, ℕ, Bool, List, [], ◌∷◌, ◌++◌, length}
use Rattle.bcder_tree.specs.Tags.{TagValue, IsTag}
use Rattle.bcder_tree.specs.Octets.{IsIdentifier}

-- A front of so many octets has the form P.
pub record Begins (P : List ℕ → Type 0) (octets : List ℕ) (count : ℕ) : Type 0 where
  pub text : List ℕ
  pub rest : List ℕ
  pub is : P text
  pub whole : octets ≡ text ++ rest
  pub long : length text ≡ count

-- No front of the octets has the form P.
pub record Lacks (P : List ℕ → Type 0) (octets : List ℕ) : Type 0 where
  pub none : (text rest : List ℕ) → P text → octets ≡ text ++ rest → ⊥

-- The identifier octets of a tag that values have.
abbrev pub Identifies : Bool → TagValue → List ℕ → Type 0
Identifies constructed t text = IsTag t × IsIdentifier text constructed t

-- End-of-contents octets (X.690 8.1.5).
abbrev pub IsEnd : List ℕ → Type 0
IsEnd text = text ≡ 0 ∷ 0 ∷ []
