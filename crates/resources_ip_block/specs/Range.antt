-- What contracts see of a range of addresses.
use Rattle.std.specs.Prelude.{◌≤◌}
use Rattle.resources_ip_block.specs.resources_chain.Sets.{Run}
use Rattle.resources_ip_block.specs.declared.range.AddressRange.{AddressRange}
use Rattle.resources_ip_prefix.specs.All.{last_address}
use Rattle.resources_ip_prefix.specs.Address.{bits_of, bits_within}

-- The addresses from the first to the last (RFC 3779 2.2.3.9).
abbrev pub run_of_range : AddressRange → Run
run_of_range r = record { first = bits_of r.first; last = bits_of r.last }

pub range_within : (r : AddressRange) → ((run_of_range r).first ≤ (run_of_range r).last)
    × ((run_of_range r).last ≤ last_address)
range_within r = (r.ordered, bits_within r.last)
