use Rattle.std.proofs.Common.{length}
use denote.Shadow.{shadow}
use denote.Text.{Utf8}
use Rattle.resources_as.specs.resources_chain.Lists.{Leaves}
use Rattle.resources_asn.specs.BlockTexts.{IsAsBlockText}
use Rattle.resources_as.proofs.text.read_blocks.Given as goal

abbrev pub invariant-loop-piece : goal.invariant-loop-piece
invariant-loop-piece l = shadow (Utf8 l.rest) × Leaves IsAsBlockText l.fn.text l.blocks l.rest

abbrev pub decreases-loop-piece : goal.decreases-loop-piece
decreases-loop-piece l = length l.rest
