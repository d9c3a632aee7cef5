use Rattle.std.proofs.Common.{List, length}
use denote.Shadow.{shadow}
use denote.Text.{Utf8}
use Rattle.resources_as.specs.resources_chain.Sets.{Run}
use Rattle.resources_as.specs.resources_chain.Lists.{Leaves}
use Rattle.resources_asn.specs.BlockTexts.{IsAsBlockText}
use Rattle.resources_as.proofs.text.check_blocks.Given as goal

abbrev pub invariant-loop-piece : goal.invariant-loop-piece
invariant-loop-piece l = shadow (Utf8 l.rest) × ((runs : List Run) × Leaves IsAsBlockText l.fn.text runs l.rest)

abbrev pub decreases-loop-piece : goal.decreases-loop-piece
decreases-loop-piece l = length l.rest
