-- That a value has one meaning, as the contents of a range and as a number or a range (RFC 3779 3.2.3.5 to 3.2.3.9).
use Rattle.std.proofs.Common.{arith}
use Rattle.resources_asn.specs.bcder_tree.Tags.{integer_tag, sequence_tag}
use Rattle.resources_asn.specs.bcder_content.Grammar.{As, One, OneAll, Tagged}
use Rattle.resources_ip_prefix.proofs.of_bcder_content.Choices.{universal_apart}
use Rattle.resources_ip_prefix.proofs.of_bcder_content.Unique.{as_one, as_tagged, end_one, inside_one, inside_tagged, octets_one, octets_tagged, one_of_one, then_one, unsigned_one}
use Rattle.resources_asn.specs.Encodings.{IsAsId}
use Rattle.resources_asn.specs.BlockEncodings.{AreEnds, AreOrdered, IsAsBlock, IsAsRange, alone, from_to}

-- A number alone has the tag of an INTEGER.
pub id_tagged : Tagged integer_tag (As IsAsId alone)
id_tagged = as_tagged (octets_tagged _ _)

-- A range has the tag of a SEQUENCE.
pub range_tagged : Tagged sequence_tag (As IsAsRange from_to)
range_tagged = as_tagged (inside_tagged _ _)

-- Two numbers are read in one way.
pub ends_one : OneAll AreEnds
ends_one = then_one (octets_one unsigned_one) (then_one (octets_one unsigned_one) end_one)

-- Two numbers of which the first isn't above the second are read in one way.
ordered_one : OneAll AreOrdered
ordered_one = record { one = λ ts x y p q. ends_one.one ts x y p.are q.are }

-- A value is one block.
pub block_one : One IsAsBlock
block_one = one_of_one id_tagged range_tagged (universal_apart (λ e. omega arith))
    (as_one (octets_one unsigned_one)) (as_one (inside_one ordered_one))
