-- Texts of sets of AS numbers and of AS resources.
use Rattle.std.specs.Prelude.{◌≡◌, ℕ, Result, MatchResult, List, [], codes}
use Rattle.std.specs.List.{join_by}
use Rattle.resources_as.specs.resources_chain.Sets.{Run}
use Rattle.resources_as.specs.resources_chain.Claims.{Choice}
use Rattle.resources_as.specs.resources_chain.Lists.{IsListText, IsSetText, IsNoListText}
use Rattle.resources_as.specs.resources_chain.declared.choice.ResourcesChoice.TheVariants.{Missing, Inherit, Blocks}
use Rattle.resources_asn.specs.Blocks.{run_text}
use Rattle.resources_asn.specs.BlockTexts.{IsAsBlockText, IsNoAsBlock}
use Rattle.resources_asn.specs.declared.as_block.error.FromStrError.{FromStrError}
use Rattle.resources_asn.specs.declared.as_block.error.FromStrError.TheVariants.{BadBlocks, Memory}

-- Blocks with `,` or `, ` between them, in any order; the set is their union. The empty text is that of the empty set.
abbrev pub IsAsSetText : List ℕ → List Run → Type 0
IsAsSetText = IsSetText IsAsBlockText

-- What is wrong with a piece of a list: it is empty, or no block.
abbrev pub IsNoPiece : FromStrError → List ℕ → Type 0
IsNoPiece Memory piece = ⊥
IsNoPiece BadBlocks piece = piece ≡ []
IsNoPiece cause piece = ¬ (piece ≡ []) × IsNoAsBlock piece cause

-- The text is that of blocks, so that it writes their union.
abbrev pub IsAsListText : List ℕ → Type 0
IsAsListText text = (runs : List Run) × IsListText IsAsBlockText text runs

-- The text is that of no set, by what is wrong with its first faulty piece.
abbrev pub IsNoAsSet : List ℕ → FromStrError → Type 0
IsNoAsSet text cause = IsNoListText IsAsBlockText (IsNoPiece cause) text

-- Why no set is read: what is wrong with the first faulty piece; or memory, of a text without a fault.
abbrev pub RefusesAsSet : List ℕ → FromStrError → Type 0
RefusesAsSet text Memory = ¬ (text ≡ []) × IsAsListText text
RefusesAsSet text cause = IsNoAsSet text cause

-- The answer is the set of the text; or it has none, or no memory is left.
abbrev pub ReadsAsSet : List ℕ → Result (List Run) FromStrError → Type 0
ReadsAsSet text r = MatchResult r (IsAsSetText text) (RefusesAsSet text)

-- A set as it is printed.
abbrev pub as_set_text : List Run → List ℕ
as_set_text set = join_by run_text (codes ", ") set

-- Nothing, `inherit`, or the set.
abbrev pub IsAsChoiceText : List ℕ → Choice → Type 0
IsAsChoiceText text Missing = text ≡ []
IsAsChoiceText text Inherit = text ≡ codes "inherit"
IsAsChoiceText text (Blocks set) = ¬ (text ≡ []) × IsAsSetText text set

-- The answer is the choice of the text; or it has none, or no memory is left.
abbrev pub ReadsAsChoice : List ℕ → Result Choice FromStrError → Type 0
ReadsAsChoice text r =
    MatchResult r (IsAsChoiceText text) (λ e. ¬ (text ≡ codes "inherit") × RefusesAsSet text e)

-- A choice as it is printed.
abbrev pub as_choice_text : Choice → List ℕ
as_choice_text Missing = []
as_choice_text Inherit = codes "inherit"
as_choice_text (Blocks set) = as_set_text set
