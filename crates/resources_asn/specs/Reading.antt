-- What is read of blocks of AS numbers, as the grammars name it.
use Rattle.resources_asn.specs.BlockEncodings.{Ends}
use Rattle.resources_asn.specs.Ranges.{Range}
use Rattle.resources_asn.specs.declared.as_block.der.Bounds.{Bounds}

abbrev pub bounds_ends : Bounds → Ends
bounds_ends b = (b.min, (b.max, tt))

abbrev pub range_ends : Range → Ends
range_ends r = (r.first.value, (r.last.value, tt))
