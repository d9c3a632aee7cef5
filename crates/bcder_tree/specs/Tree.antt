-- Trees of tagged values, and which octets spell them (X.690 8.1, 9.1, 10.1).
use Rattle.std.specs.Prelude.{◌≡◌, ℕ, Bool, true, false, List, [], ◌∷◌, ◌++◌, length}
use Rattle.bcder_tree.specs.declared.mode.Mode.{Mode}
use Rattle.bcder_tree.specs.declared.mode.Mode.TheVariants.{Ber, Cer, Der}
use Rattle.bcder_tree.specs.Tags.{TagValue, IsTag}
use Rattle.bcder_tree.specs.Octets.{IsIdentifier, IsLength}

mutual
  -- A value: a tag with content octets, or with the values that it holds.
  pub data Tree : Type 0 where
    primitive : TagValue → List ℕ → Tree
    constructed : TagValue → Trees → Tree

  pub data Trees : Type 0 where
    none : Trees
    more : Tree → Trees → Trees

-- Which forms of length a constructed value may have: both in BER, the indefinite in CER, the definite in DER
-- (8.1.3.2, 9.1, 10.1).
abbrev pub HasDefinite : Mode → Type 0
HasDefinite Ber = Unit {0}
HasDefinite Cer = ⊥
HasDefinite Der = Unit {0}

abbrev pub HasIndefinite : Mode → Type 0
HasIndefinite Ber = Unit {0}
HasIndefinite Cer = Unit {0}
HasIndefinite Der = ⊥

-- Identifier octets and a definite length of n content octets, in front of a value of that form and tag (8.1.1.1).
pub record IsHeader (m : Mode) (octets : List ℕ) (form : Bool) (t : TagValue) (n : ℕ) : Type 0 where
  pub identifier : List ℕ
  pub size : List ℕ
  pub whole : octets ≡ identifier ++ size
  pub tag : IsTag t
  pub identifier_is : IsIdentifier identifier form t
  pub size_is : IsLength m size n

-- The octets are a primitive value: a header, and as many content octets as it says (8.1.1.1, 8.1.3.2).
pub record IsPrimitive (m : Mode) (octets : List ℕ) (t : TagValue) (content : List ℕ) : Type 0 where
  pub header : List ℕ
  pub header_is : IsHeader m header false t (length content)
  pub whole : octets ≡ header ++ content

-- The octets are a constructed value with these content octets: after a definite length, or between `80` and `00 00`
-- (8.1.1.3, 8.1.3.6, 8.1.5).
pub data IsConstructed (m : Mode) (octets : List ℕ) (t : TagValue) (content : List ℕ) : Type 0 where
  definite : HasDefinite m → (header : List ℕ) → IsHeader m header true t (length content)
      → octets ≡ header ++ content → IsConstructed m octets t content
  indefinite : HasIndefinite m → (identifier : List ℕ) → IsTag t → IsIdentifier identifier true t
      → octets ≡ identifier ++ (128 ∷ content ++ (0 ∷ 0 ∷ [])) → IsConstructed m octets t content

abbrev mutual
  -- The octets spell the tree.
  pub Spells : Mode → Tree → List ℕ → Type 0
  Spells m (primitive t content) octets = IsPrimitive m octets t content
  Spells m (constructed t ts) octets =
      (content : List ℕ) × IsConstructed m octets t content × SpellsAll m ts content

  -- The octets spell the trees, one after the other.
  pub SpellsAll : Mode → Trees → List ℕ → Type 0
  SpellsAll m none octets = octets ≡ []
  SpellsAll m (more t ts) octets =
      (a : List ℕ) × (b : List ℕ) × Spells m t a × SpellsAll m ts b × (octets ≡ a ++ b)
