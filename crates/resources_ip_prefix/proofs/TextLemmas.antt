-- Texts of addresses that were made of bits.
use Rattle.std.proofs.Common.{◌≡◌, ℕ, ◌/◌, ◌^◌, List, ap}
use Rattle.std.specs.Net.Addr.{ipv4_octets, ipv6_segments, IsIpv4OfBits, IsIpv6OfBits}
use Rattle.std.specs.Net.Text.{ipv4_text, ipv6_text}
use Rattle.std.specs.declared.net.ipv4_addr.Ipv4Addr.{Ipv4Addr}
use Rattle.std.specs.declared.net.ipv6_addr.Ipv6Addr.{Ipv6Addr}
use Rattle.resources_ip_prefix.specs.Text.{v4_text, v6_text}

pub v4_of : (ip : Ipv4Addr) (n : ℕ) → IsIpv4OfBits ip (n / 2 ^ 96) → ipv4_text (ipv4_octets ip) ≡ v4_text n
unfolding IsIpv4OfBits
v4_of ip n e = ap (λ (o : List ℕ). ipv4_text o) e

pub v6_of : (ip : Ipv6Addr) (n : ℕ) → IsIpv6OfBits ip n → ipv6_text (ipv6_segments ip) ≡ v6_text n
unfolding IsIpv6OfBits
v6_of ip n e = ap (λ (o : List ℕ). ipv6_text o) e
