-- Texts of blocks of one family.
use Rattle.std.specs.Prelude.{ℕ, Result, MatchResult, List}
use Rattle.resources.specs.resources_chain.Sets.{Run}
use Rattle.resources.specs.resources_ip_prefix.declared.addr.AddressFamily.{AddressFamily}
use Rattle.resources.specs.resources_ip_prefix.declared.error.FromStrError.{FromStrError}
use Rattle.resources.specs.resources_ip_block.declared.block.IpBlock.{IpBlock}
use Rattle.resources.specs.resources_ip_block.Block.{run_of_block}
use Rattle.resources.specs.resources_ip_block.ReadTexts.{WritesBlock, IsNoBlock}

-- The answer is the block that the text writes; or it writes none, for the reason told.
abbrev pub ReadsFamilyBlock : AddressFamily → List ℕ → Result IpBlock FromStrError → Type 0
ReadsFamilyBlock family text r =
    MatchResult r (λ b. WritesBlock family text (run_of_block b))
    (λ e. IsNoBlock family text e × ((run : Run) → ¬ (WritesBlock family text run)))
