-- Texts of sets of addresses of a family.
use Rattle.std.specs.Prelude.{◌≡◌, ℕ, Result, MatchResult, List, [], codes}
use Rattle.std.specs.List.{join_by}
use Rattle.resources_ip.specs.resources_chain.Sets.{Run}
use Rattle.resources_ip.specs.resources_chain.Lists.{IsListText, IsSetText, IsNoListText}
use Rattle.resources_ip.specs.resources_ip_prefix.declared.addr.AddressFamily.{AddressFamily}
use Rattle.resources_ip.specs.resources_ip_prefix.declared.error.FromStrError.{FromStrError}
use Rattle.resources_ip.specs.resources_ip_prefix.declared.error.FromStrError.TheVariants as Cause
use Rattle.resources_ip.specs.resources_ip_prefix.ReadTexts.{Shows}
use Rattle.resources_ip_block.specs.BlockText.{block_text, address_text}
use Rattle.resources_ip_block.specs.ReadTexts.{WritesBlock, IsNoBlock}

-- Blocks with `,` or `, ` between them, in any order; the set is their union. The empty text is that of the empty set.
abbrev pub IsIpSetText : AddressFamily → List ℕ → List Run → Type 0
IsIpSetText family = IsSetText (WritesBlock family)

-- What is wrong with a piece of a list: it is empty, of the other family by its colons, or no block.
abbrev pub IsNoPiece : AddressFamily → FromStrError → List ℕ → Type 0
IsNoPiece family Cause.Memory piece = ⊥
IsNoPiece family Cause.BadBlocks piece = piece ≡ []
IsNoPiece family Cause.FamilyMismatch piece = ¬ (piece ≡ []) × ¬ (Shows family piece)
IsNoPiece family cause piece = ¬ (piece ≡ []) × Shows family piece × IsNoBlock family piece cause

-- The text is that of blocks of the family, so that it writes their union.
abbrev pub IsIpListText : AddressFamily → List ℕ → Type 0
IsIpListText family text = (runs : List Run) × IsListText (WritesBlock family) text runs

-- The text is that of no set, by what is wrong with its first faulty piece.
abbrev pub IsNoIpSet : AddressFamily → List ℕ → FromStrError → Type 0
IsNoIpSet family text cause = IsNoListText (WritesBlock family) (IsNoPiece family cause) text

-- Why no set is read: what is wrong with the first faulty piece; or memory, of a text without a fault.
abbrev pub RefusesIpSet : AddressFamily → List ℕ → FromStrError → Type 0
RefusesIpSet family text Cause.Memory = ¬ (text ≡ []) × IsIpListText family text
RefusesIpSet family text cause = IsNoIpSet family text cause

-- The answer is the set of the text; or it has none, or no memory is left.
abbrev pub ReadsIpSet : AddressFamily → List ℕ → Result (List Run) FromStrError → Type 0
ReadsIpSet family text r = MatchResult r (IsIpSetText family text) (RefusesIpSet family text)

-- A set as it is printed as one of the family.
abbrev pub ip_set_text : AddressFamily → List Run → List ℕ
ip_set_text family set = join_by (block_text (address_text family)) (codes ", ") set
