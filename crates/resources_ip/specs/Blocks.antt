-- What contracts see of sets of addresses, and of the blocks that are left to come.
use Rattle.std.specs.Prelude.{ℕ, ◌<◌, ◌^◌, List}
use Rattle.resources_ip_block.specs.declared.block.IpBlock.{IpBlock}
use Rattle.resources_ip.specs.declared.blocks.IpBlockIter.{IpBlockIter}

-- Each number of 128 bits is an address.
abbrev pub IsAddress : ℕ → Type 0
IsAddress n = n < 2 ^ 128

-- The blocks that an iterator still gives.
abbrev pub blocks_left : IpBlockIter → List IpBlock
blocks_left i = i.rest.now
