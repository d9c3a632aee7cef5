-- Prefixes and ranges in an encoding (RFC 3779 2.2.3.7 to 2.2.3.9).
use Rattle.std.specs.Prelude.{◌≡◌, ◌≤◌}
use Rattle.resources_ip_block.specs.bcder_tree.declared.mode.Mode.{Mode}
use Rattle.resources_ip_block.specs.bcder_tree.Tags.{sequence_tag}
use Rattle.resources_ip_block.specs.bcder_tree.Tree.{Tree, Trees}
use Rattle.resources_ip_block.specs.bcder_content.Grammar.{As, End, Inside, OneOf, Then}
use Rattle.resources_ip_block.specs.resources_chain.Sets.{Run}
use Rattle.resources_ip_prefix.specs.declared.addr.AddressFamily.{AddressFamily}
use Rattle.resources_ip_block.specs.declared.der.Bounds.{Bounds}
use Rattle.resources_ip_prefix.specs.Encodings.{FirstBits, IsAddress, prefix_bits}
use Rattle.resources_ip_prefix.specs.Prefixes.{prefix_run}

-- The addresses that begin with the bits: from these with zeros after them to these with ones.
abbrev pub beginning : FirstBits → Run
beginning b = prefix_run b.addr b.len

-- SEQUENCE { min IPAddress, max IPAddress } (2.2.3.9): from min filled with zeros to max filled with ones, and min isn't
-- above max.
abbrev pub Ends : Type 0
Ends = FirstBits × (FirstBits × Unit {0})

abbrev pub AreEnds : Mode → AddressFamily → Trees → Ends → Type 0
AreEnds m family = Then (IsAddress m family) (Then (IsAddress m family) End)

abbrev pub from_to : Ends → Run
from_to ends = record { first = (beginning ends.0).first; last = (beginning ends.1.0).last }

pub record AreOrdered (m : Mode) (family : AddressFamily) (ts : Trees) (run : Run) : Type 0 where
  pub ends : Ends
  pub are : AreEnds m family ts ends
  pub from_min_to_max : run ≡ from_to ends
  pub ordered : run.first ≤ run.last

-- IPAddressRange (2.2.3.9).
abbrev pub IsRange : Mode → AddressFamily → Tree → Run → Type 0
IsRange m family = Inside sequence_tag (AreOrdered m family)

-- IPAddressOrRange ::= CHOICE { addressPrefix IPAddress, addressRange IPAddressRange } (2.2.3.7).
abbrev pub IsBlock : Mode → AddressFamily → Tree → Run → Type 0
IsBlock m family = OneOf (As (IsAddress m family) beginning) (IsRange m family)

-- What is read of a range, as the grammar names it.
abbrev pub bounds_ends : Bounds → Ends
bounds_ends b = (prefix_bits b.min, (prefix_bits b.max, tt))
