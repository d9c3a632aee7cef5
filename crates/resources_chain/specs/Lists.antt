-- Texts of lists: pieces with a comma (44) between them, behind which a space (32) may stand.
use Rattle.std.specs.Prelude.{◌≡◌, ◌≢◌, ℕ, ◌<◌, ◌⊎◌, List, [], ◌∷◌, ◌++◌, length, get_or}
use Rattle.resources_chain.specs.Sets.{Run, InRuns, IsRunsOf}

abbrev pub HasNoComma : List ℕ → Type 0
HasNoComma text = (k : ℕ) → k < length text → get_or text k 0 ≢ 44

-- The first piece is cut off, with the comma after it and the space that stands there, if one does.
pub record CutsPiece (text piece rest : List ℕ) : Type 0 where
  pub behind : List ℕ
  pub whole : text ≡ piece ++ 44 ∷ behind
  pub first : HasNoComma piece
  pub space : (behind ≡ 32 ∷ rest) ⊎ ((behind ≡ rest) × ((tail : List ℕ) → behind ≢ 32 ∷ tail))

-- In all that follows `Writes` tells which run the text of one piece writes.

-- The text is that of these runs, a piece for each in their order; of none it is empty.
abbrev pub IsListText : (List ℕ → Run → Type 0) → List ℕ → List Run → Type 0
IsListText Writes text [] = text ≡ []
IsListText Writes text (r ∷ []) = HasNoComma text × Writes text r
IsListText Writes text (r ∷ s ∷ runs) =
    (piece rest : List ℕ) × CutsPiece text piece rest × Writes piece r
    × IsListText Writes rest (s ∷ runs)

-- The set is the union of the runs, as its maximal runs.
pub record IsSetText (Writes : List ℕ → Run → Type 0) (text : List ℕ) (set : List Run)
    : Type 0 where
  pub runs : List Run
  pub are : IsListText Writes text runs
  pub union : IsRunsOf (InRuns runs) set

-- The first pieces write these runs, and this is left after the last of their commas and its space.
abbrev pub Leaves : (List ℕ → Run → Type 0) → List ℕ → List Run → List ℕ → Type 0
Leaves Writes text [] rest = text ≡ rest
Leaves Writes text (r ∷ runs) rest =
    (piece behind : List ℕ) × CutsPiece text piece behind × Writes piece r
    × Leaves Writes behind runs rest

-- What stands before the first comma, or all where there is none.
abbrev pub IsFirstPiece : List ℕ → List ℕ → Type 0
IsFirstPiece text piece =
    (HasNoComma text × (text ≡ piece)) ⊎ ((rest : List ℕ) × CutsPiece text piece rest)

-- A piece is faulty, and those before it write runs.
pub record HasFault (Writes : List ℕ → Run → Type 0) (Faulty : List ℕ → Type 0) (text : List ℕ)
    : Type 0 where
  pub runs : List Run
  pub rest : List ℕ
  pub piece : List ℕ
  pub leaves : Leaves Writes text runs rest
  pub first : IsFirstPiece rest piece
  pub faulty : Faulty piece

-- So the text is that of no list.
pub record IsNoListText (Writes : List ℕ → Run → Type 0) (Faulty : List ℕ → Type 0) (text : List ℕ)
    : Type 0 where
  pub fault : HasFault Writes Faulty text
  pub none : (runs : List Run) → ¬ (IsListText Writes text runs)
