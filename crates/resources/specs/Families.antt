-- What blocks and sets of one family promise.
use Rattle.std.specs.Prelude.{List}
use Rattle.resources.specs.resources_chain.Sets.{Run}
use Rattle.resources.specs.resources_chain.Claims.{Choice}
use Rattle.resources.specs.resources_ip_prefix.declared.addr.AddressFamily.{AddressFamily}
use Rattle.resources.specs.resources_ip_prefix.declared.addr.AddressFamily.TheVariants.{Ipv4, Ipv6}
use Rattle.resources.specs.resources_ip_prefix.Whole.{IsWhole}
use Rattle.resources.specs.resources_ip.WholeSets.{AreWhole, ListsWhole}

-- A block fits a family: one of IPv4 is over whole IPv4 addresses, and any is one of IPv6.
abbrev pub FitsBlock : AddressFamily → Run → Type 0
FitsBlock Ipv4 run = IsWhole run
FitsBlock Ipv6 run = Unit {0}

-- A set fits a family: one of IPv4 is over whole IPv4 addresses, and any is one of IPv6.
abbrev pub FitsBlocks : AddressFamily → List Run → Type 0
FitsBlocks Ipv4 runs = AreWhole runs
FitsBlocks Ipv6 runs = Unit {0}

-- What a certificate says of a family fits it: a list of IPv4 is over whole IPv4 addresses, and any choice fits IPv6.
abbrev pub FitsListed : AddressFamily → Choice → Type 0
FitsListed Ipv4 choice = ListsWhole choice
FitsListed Ipv6 choice = Unit {0}
