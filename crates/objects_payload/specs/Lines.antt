-- Lines in front of a text, and the comments of a locator (RFC 8630 2.2).
use Rattle.std.specs.Prelude.{◌≡◌, ◌≢◌, ◌⊎◌, ℕ, List, [], ◌∷◌, ◌++◌, All}
use Rattle.objects_payload.specs.Locators.{NoReturnAtEnd, EndsLine, AreLines, IsComment}

-- What stands before LF: the line, or the line and CR, which is the line's end then.
abbrev pub IsEndedBy : List ℕ → List ℕ → Type 0
IsEndedBy text line = ((text ≡ line) × NoReturnAtEnd line) ⊎ (text ≡ line ++ 13 ∷ [])

-- This line stands in front, and this rest after its end.
pub record HasLine (line rest text : List ℕ) : Type 0 where
  pub front : List ℕ
  pub ends : EndsLine line front
  pub whole : text ≡ front ++ rest

-- No line ends.
abbrev pub NoLine : List ℕ → Type 0
NoLine text = All (λ c. c ≢ 10) text

-- A comment stands in front, and this rest after it.
pub record HasComment (rest text : List ℕ) : Type 0 where
  pub line : List ℕ
  pub has : HasLine line rest text
  pub is : IsComment line

-- No comment stands in front.
abbrev pub NoComment : List ℕ → Type 0
NoComment text = (line rest : List ℕ) → HasLine line rest text → IsComment line → ⊥

-- Comments stand in front, and this rest after them.
pub record HasComments (rest text : List ℕ) : Type 0 where
  pub comments : List (List ℕ)
  pub head : List ℕ
  pub whole : text ≡ head ++ rest
  pub head_is : AreLines comments head
  pub comments_are : All IsComment comments

-- Comments stand in front, as many as there are, and this rest after them.
pub record Commented (rest text : List ℕ) : Type 0 where
  pub has : HasComments rest text
  pub no_more : NoComment rest
