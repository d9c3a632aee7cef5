-- What contracts see of a set that is to be printed as one of a family.
use Rattle.std.specs.Prelude.{List}
use Rattle.resources_ip.specs.resources_chain.Sets.{Run}
use Rattle.resources_ip.specs.resources_ip_prefix.declared.addr.AddressFamily.{AddressFamily}
use Rattle.resources_ip.specs.declared.listed.IpBlocksForFamily.{IpBlocksForFamily}

abbrev pub shown_family : IpBlocksForFamily → AddressFamily
shown_family s = s.family

abbrev pub shown_set : IpBlocksForFamily → List Run
shown_set s = s.blocks.now
