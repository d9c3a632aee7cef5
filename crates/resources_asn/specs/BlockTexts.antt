-- Texts of blocks of AS numbers: one number, or two with a dash (45) between.
use Rattle.std.specs.Prelude.{◌≡◌, ℕ, ◌<◌, ◌≤◌, ◌⊎◌, Result, MatchResult, List}
use Rattle.resources_asn.specs.resources_ip_prefix.Cuts.{LacksByte, IsCut}
use Rattle.resources_asn.specs.resources_chain.Sets.{Run}
use Rattle.resources_asn.specs.Texts.{IsAsnText}
use Rattle.resources_asn.specs.declared.as_block.block.AsBlock.{AsBlock}
use Rattle.resources_asn.specs.declared.as_block.error.FromStrError.{FromStrError}
use Rattle.resources_asn.specs.declared.as_block.error.FromStrError.TheVariants.{BadAsn, BadRange, BadBlocks, Memory}
use Rattle.resources_asn.specs.Blocks.{as_run}

-- The first number, a dash, and the last, which isn't below the first.
pub record IsAsRangeText (text : List ℕ) (r : Run) : Type 0 where
  pub min : List ℕ
  pub max : List ℕ
  pub cut : IsCut 45 text min max
  pub first : IsAsnText min r.first
  pub last : IsAsnText max r.last
  pub ordered : r.first ≤ r.last

abbrev pub IsAsBlockText : List ℕ → Run → Type 0
IsAsBlockText text r = (IsAsnText text r.first × (r.last ≡ r.first)) ⊎ IsAsRangeText text r

-- The text is that of no AS number.
abbrev pub IsNoAsn : List ℕ → Type 0
IsNoAsn text = (n : ℕ) → ¬ (IsAsnText text n)

-- What is wrong with a text: a number is none; or there is a second dash, or the last number is below the first.
abbrev pub IsNoAsBlock : List ℕ → FromStrError → Type 0
IsNoAsBlock text BadAsn =
    (LacksByte 45 text × IsNoAsn text)
    ⊎ ((min max : List ℕ) × IsCut 45 text min max × LacksByte 45 max × (IsNoAsn min ⊎ IsNoAsn max))
IsNoAsBlock text BadRange =
    (min max : List ℕ) × IsCut 45 text min max
    × (¬ (LacksByte 45 max) ⊎ ((first last : ℕ) × IsAsnText min first × IsAsnText max last
    × (last < first)))
IsNoAsBlock text BadBlocks = ⊥
IsNoAsBlock text Memory = ⊥

-- The answer is the block that the text writes; or it writes none, for that reason.
abbrev pub ReadsAsBlock : List ℕ → Result AsBlock FromStrError → Type 0
ReadsAsBlock text r =
    MatchResult r (λ b. IsAsBlockText text (as_run b))
    (λ e. IsNoAsBlock text e × ((run : Run) → ¬ (IsAsBlockText text run)))
