-- Restricted character strings (X.690 8.23): octet strings under a tag of their own, whose octets are a text.
use Rattle.std.specs.Prelude.{◌≡◌, ℕ, List}
use Rattle.bcder.specs.bcder_tree.declared.mode.Mode.{Mode}
use Rattle.bcder.specs.bcder_tree.Tags.{TagValue}
use Rattle.bcder.specs.bcder_tree.Tree.{Tree, Trees, none, more}
use Rattle.bcder.specs.bcder_tree.Strings.{IsString}
use Rattle.bcder.specs.Texts.{IsText}
use Rattle.bcder.specs.bcder_content.Contents.{ValuesLeft}
use Rattle.bcder.specs.bcder_content.declared.content.Content.{Content}
use Rattle.bcder.specs.bcder_content.Grammar.{Where}
use Rattle.bcder_octets.specs.Parts.{IsWhole}
use Rattle.bcder_octets.specs.Wants.{WantsString, WantsNext}

-- The octets of a primitive value are a string in one piece, and a text of the set (8.23, 9.2).
pub record IsWholeText (Has : ℕ → Type 0) (spell : ℕ → List ℕ) (m : Mode) (content octets : List ℕ)
    : Type 0 where
  pub whole : IsWhole m content octets
  pub text : IsText Has spell octets

-- Where a reader of a text may want memory, on the next value or on a content: it's a text in one piece, or has segments,
-- which DER lacks (10.2).
abbrev pub WantsText : (ℕ → Type 0) → (ℕ → List ℕ) → TagValue → ValuesLeft → Type 0
WantsText Has spell = WantsNext (IsWholeText Has spell)

abbrev pub WantsTextIn : {S : Type 0} → (ℕ → Type 0) → (ℕ → List ℕ) → (S → List ℕ) → Content S
    → Type 0
WantsTextIn Has spell = WantsString (IsWholeText Has spell)

-- The octets of a string with that tag, its own or an implicit one, which are a text of the set.
abbrev pub IsRestricted : (ℕ → Type 0) → (ℕ → List ℕ) → Mode → TagValue → Tree → List ℕ → Type 0
IsRestricted Has spell m tag = Where (IsString m tag) (IsText Has spell)

-- The values are one, which is a restricted string of these octets.
pub record WrittenText (Has : ℕ → Type 0) (spell : ℕ → List ℕ) (m : Mode) (tag : TagValue)
    (octets : List ℕ) (ts : Trees) : Type 0 where
  pub tree : Tree
  pub alone : ts ≡ more tree none
  pub is : IsRestricted Has spell m tag tree octets
