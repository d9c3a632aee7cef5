use Rattle.std.proofs.Common.{◌∙◌}
use Rattle.resources_ip_block.proofs.Counting.{shortest_min_is}
use Rattle.resources_ip_block.proofs.range.AddressRange.shortest_min.Goals as goal

pub returns : goal.returns
returns c =
    shortest_min_is _ c.new.result
    (rw (c.to_bits.ensures ∙ c.min.ensures.value, c.min-2.ensures.value) at c.new.ensures.addr)
    (rw (c.to_bits.ensures ∙ c.min.ensures.value) at c.new.ensures.len)
