-- Texts: characters of a set, and the octets that spell them (X.680 clause 41, X.690 8.23).
use Rattle.std.specs.Prelude.{◌≡◌, ℕ, List, [], ◌++◌, All, flat_map}

-- The octets are a text of the set, with these characters: each is in the set, and their octets stand one after the
-- other.
pub record Tells (Has : ℕ → Type 0) (spell : ℕ → List ℕ) (octets chars : List ℕ) : Type 0 where
  pub has : All Has chars
  pub spelled : flat_map spell chars ≡ octets

-- The octets are some text of the set.
pub record IsText (Has : ℕ → Type 0) (spell : ℕ → List ℕ) (octets : List ℕ) : Type 0 where
  pub chars : List ℕ
  pub tells : Tells Has spell octets chars

-- A character of the set stands in front of the octets, and these come after it.
pub record Starts (Has : ℕ → Type 0) (spell : ℕ → List ℕ) (octets : List ℕ) (char : ℕ)
    (behind : List ℕ) : Type 0 where
  pub has : Has char
  pub spelled : octets ≡ spell char ++ behind

-- There are octets, but no character of the set stands in front.
pub record NoStart (Has : ℕ → Type 0) (spell : ℕ → List ℕ) (octets : List ℕ) : Type 0 where
  pub some : octets ≡ [] → ⊥
  pub none : (char : ℕ) (behind : List ℕ) → Starts Has spell octets char behind → ⊥

-- Octets have one character in front at most.
pub record HasOneStart (Has : ℕ → Type 0) (spell : ℕ → List ℕ) : Type 0 where
  pub char : (octets : List ℕ) (a b : ℕ) (x y : List ℕ) → Starts Has spell octets a x
      → Starts Has spell octets b y → a ≡ b
  pub behind : (octets : List ℕ) (a b : ℕ) (x y : List ℕ) → Starts Has spell octets a x
      → Starts Has spell octets b y → x ≡ y
