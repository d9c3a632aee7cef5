use Rattle.std.proofs.Common.{◌≡◌, length}
use denote.Shadow.{shadow}
use denote.Text.{Utf8}
use Rattle.resources_ip.specs.resources_chain.Lists.{Leaves}
use Rattle.resources_ip.specs.resources_ip_prefix.declared.addr.AddressFamily.TheVariants.{Ipv4}
use Rattle.resources_ip_block.specs.ReadTexts.{WritesBlock}
use Rattle.resources_ip.specs.WholeSets.{AreWhole}
use Rattle.resources_ip.proofs.listed.read_blocks.Given as goal

abbrev pub invariant-loop-piece : goal.invariant-loop-piece
invariant-loop-piece l = shadow (Utf8 l.rest) × (l.family ≡ Ipv4 → AreWhole l.blocks) × Leaves (WritesBlock l.family) l.fn.text l.blocks l.rest

abbrev pub decreases-loop-piece : goal.decreases-loop-piece
decreases-loop-piece l = length l.rest
