-- What certificates claim of one kind of numbers, and what they hold by it (RFC 6487 7.2, RFC 8360 4.2).
use Rattle.std.specs.Prelude.{◌≡◌, ℕ, List, [], ◌∷◌, ◌++◌, map}
use Rattle.resources_chain.specs.Sets.{Run, InRuns, AreMaximal, IsRunsOf}
use Rattle.resources_chain.specs.declared.choice.ResourcesChoice.{ResourcesChoice}
use Rattle.resources_chain.specs.declared.choice.ResourcesChoice.TheVariants.{Missing, Inherit, Blocks}
use Rattle.resources_chain.specs.declared.claims.Overclaim.{Overclaim}
use Rattle.resources_chain.specs.declared.claims.Overclaim.TheVariants.{Refuse, Trim}
use Rattle.resources_chain.specs.declared.claims.ClaimError.{ClaimError}
use Rattle.resources_chain.specs.declared.claims.ClaimError.TheVariants.{Overclaimed, Memory}

-- Nothing, `inherit`, or a set as its maximal runs (RFC 3779 2.2.3.5, 3.2.3.3).
abbrev pub Choice : Type 0
Choice = ResourcesChoice (List Run)

-- The choice lists the number.
abbrev pub Lists : Choice → ℕ → Type 0
Lists Missing n = ⊥
Lists Inherit n = ⊥
Lists (Blocks runs) n = InRuns runs n

-- The set that is listed, if there is one, is so by its maximal runs.
abbrev pub HasMaximal : Choice → Type 0
HasMaximal Missing = Unit {0}
HasMaximal Inherit = Unit {0}
HasMaximal (Blocks runs) = AreMaximal runs

-- The choice lists the number, or inherits.
abbrev pub Keeps : Choice → ℕ → Type 0
Keeps Missing n = ⊥
Keeps Inherit n = Unit {0}
Keeps (Blocks runs) n = InRuns runs n

-- In all that follows `held` says which numbers the issuer holds.

-- Under `Refuse` each number that is listed is held (RFC 6487 7.2); `Trim` has no condition (RFC 8360 4.2).
abbrev pub FitsIn : Overclaim → Choice → (ℕ → Type 0) → Type 0
FitsIn Refuse choice held = (n : ℕ) → Lists choice n → held n
FitsIn Trim choice held = Unit {0}

-- The number is held below: none where the kind is missing, the issuer's where it is inherited, and otherwise those
-- of the issuer's that are listed.
abbrev pub Kept : Choice → (ℕ → Type 0) → ℕ → Type 0
Kept choice held n = Keeps choice n × held n

-- The number is listed and isn't held.
abbrev pub Overclaims : Choice → (ℕ → Type 0) → ℕ → Type 0
Overclaims choice held n = Lists choice n × ¬ (held n)

-- The claim doesn't fit, and these are the numbers that it lists and that aren't held, of which there are some.
pub record Unfit (mode : Overclaim) (choice : Choice) (held : ℕ → Type 0) (numbers : List Run)
    : Type 0 where
  pub refused : ¬ (FitsIn mode choice held)
  pub outside : IsRunsOf (Overclaims choice held) numbers
  pub some : (n : ℕ) × Overclaims choice held n

-- Why a claim is refused: it doesn't fit, or there was no memory.
abbrev pub Refuses : Overclaim → Choice → (ℕ → Type 0) → ClaimError (List Run) → Type 0
Refuses mode choice held (Overclaimed numbers) = Unfit mode choice held numbers
Refuses mode choice held Memory = Unit {0}

-- What one certificate after another claims, the one below the root first.
abbrev pub Path : Type 0
Path = List (Choice × Overclaim)

-- The path of things that have a choice each, beside a policy.
abbrev pub path_of : {C : Type 0} → (C → Choice) → List (C × Overclaim) → Path
path_of choice claims = map (λ claim. (choice claim.0, claim.1)) claims

-- Each of the certificates lists the number or inherits.
abbrev pub AllKeep : Path → ℕ → Type 0
AllKeep [] n = Unit {0}
AllKeep (claim ∷ path) n = Keeps claim.0 n × AllKeep path n

-- The number is held along the path: at the root, and each certificate keeps it.
abbrev pub HeldAlong : (ℕ → Type 0) → Path → ℕ → Type 0
HeldAlong held path n = held n × AllKeep path n

-- Each certificate fits in what is held along the path before it.
abbrev pub FitsAlong : (ℕ → Type 0) → Path → Type 0
FitsAlong held path =
    (front : Path) (claim : Choice × Overclaim) (behind : Path) → path ≡ front ++ claim ∷ behind
    → FitsIn claim.1 claim.0 (HeldAlong held front)

-- The first certificate of the path that doesn't fit, and the numbers that it lists and that aren't held before it.
pub record UnfitAlong (held : ℕ → Type 0) (path : Path) (numbers : List Run) : Type 0 where
  pub front : Path
  pub claim : Choice × Overclaim
  pub behind : Path
  pub whole : path ≡ front ++ claim ∷ behind
  pub fits : FitsAlong held front
  pub unfit : Unfit claim.1 claim.0 (HeldAlong held front) numbers

-- Why a path is refused.
abbrev pub RefusesAlong : (ℕ → Type 0) → Path → ClaimError (List Run) → Type 0
RefusesAlong held path (Overclaimed numbers) = UnfitAlong held path numbers
RefusesAlong held path Memory = Unit {0}
