-- That a value has one meaning, as the contents of a range and as a prefix or a range (RFC 3779 2.2.3.7 to 2.2.3.9).
use Rattle.std.proofs.Common.{ap, sym, ◌∙◌, arith}
use Rattle.resources_ip_block.specs.bcder_tree.declared.mode.Mode.{Mode}
use Rattle.resources_ip_block.specs.bcder_tree.Tags.{universal, sequence_tag}
use Rattle.resources_ip_block.specs.bcder_content.Grammar.{As, One, OneAll, Tagged}
use Rattle.resources_ip_prefix.proofs.of_bcder_content.Choices.{universal_apart}
use Rattle.resources_ip_prefix.proofs.of_bcder_content.Unique.{as_one, as_tagged, end_one, inside_one, inside_tagged, octets_tagged, one_of_one, such_tagged, then_one}
use Rattle.resources_ip_prefix.specs.declared.addr.AddressFamily.{AddressFamily}
use Rattle.resources_ip_prefix.specs.Encodings.{IsAddress}
use Rattle.resources_ip_prefix.specs.Meanings.{address_one}
use Rattle.resources_ip_block.specs.BlockEncodings.{AreEnds, AreOrdered, IsBlock, IsRange, beginning, from_to}

-- Two addresses are read in one way.
pub ends_one : {m : Mode} (family : AddressFamily) → OneAll (AreEnds m family)
ends_one family = then_one (address_one family) (then_one (address_one family) end_one)

-- Two addresses of which the first isn't above the second are those of one range.
ordered_one : {m : Mode} (family : AddressFamily) → OneAll (AreOrdered m family)
ordered_one family = record {
  one = λ ts x y p q. p.from_min_to_max ∙ ap from_to
      ((ends_one family).one ts p.ends q.ends p.are q.are) ∙ sym q.from_min_to_max;
}

-- A prefix has the tag of a BIT STRING.
pub prefix_tagged : {m : Mode} (family : AddressFamily)
    → Tagged (universal 3) (As (IsAddress m family) beginning)
prefix_tagged family = as_tagged (as_tagged (such_tagged (octets_tagged _ _)))

-- A range has the tag of a SEQUENCE.
pub range_tagged : {m : Mode} {family : AddressFamily} → Tagged sequence_tag (IsRange m family)
range_tagged = inside_tagged _ _

-- A value is one block.
pub block_one : {m : Mode} (family : AddressFamily) → One (IsBlock m family)
block_one family = one_of_one (prefix_tagged family) range_tagged
    (universal_apart (λ e. omega arith)) (as_one (address_one family))
    (inside_one (ordered_one family))
