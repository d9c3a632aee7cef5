-- What contracts see of an address.
use Rattle.std.specs.Prelude.{◌≡◌, ℕ, ◌≤◌}
use Rattle.resources_chain.specs.Items.{made_alike}
use Rattle.resources_ip_prefix.specs.All.{last_address}
use Rattle.resources_ip_prefix.specs.declared.addr.Addr.{Addr}

-- The 128 bits as a number.
abbrev pub bits_of : Addr → ℕ
bits_of a = a.bits

pub bits_within : (a : Addr) → bits_of a ≤ last_address
bits_within a = a.in_range

-- Addresses of the same bits are one.
pub one_addr : (a b : Addr) → bits_of a ≡ bits_of b → a ≡ b
one_addr a b e = made_alike {A = Addr} (λ v h. record
    { bits = v; in_range = h }) a.bits b.bits a.in_range b.in_range e
