use Rattle.std.proofs.Common.{◌∙◌}
use Rattle.resources_ip_prefix.specs.Address.{bits_within}
use Rattle.resources_ip_block.proofs.Counting.{shortest_max_is}
use Rattle.resources_ip_block.proofs.range.AddressRange.shortest_max.Goals as goal

pub returns : goal.returns
returns c =
    shortest_max_is _ c.new.result (bits_within c.args.self.last)
    (rw (c.trailing_ones-ones.ensures, c.to_bits.ensures ∙ c.max.ensures.value, c.max-2.ensures.value) at c.new.ensures.addr)
    (rw (c.trailing_ones-ones.ensures, c.to_bits.ensures ∙ c.max.ensures.value) at c.new.ensures.len)
