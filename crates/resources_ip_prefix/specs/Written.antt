-- What is written of prefixes (RFC 3779 2.2.3.8).
use Rattle.std.specs.Prelude.{ℕ, ◌+◌, ◌-◌, ◌*◌, ◌/◌, take}
use Rattle.std.specs.Int.{to_be_bytes, w128}
use Rattle.resources_ip_prefix.specs.bcder_octets.Bits.{BitsValue}
use Rattle.resources_ip_prefix.specs.declared.prefix.Prefix.{Prefix}
use Rattle.resources_ip_prefix.specs.Address.{bits_of}
use Rattle.resources_ip_prefix.specs.Prefix.{prefix_addr, prefix_len}

-- How many octets so many bits have.
abbrev pub octet_count : ℕ → ℕ
octet_count len = (len + 7) / 8

-- The bits of a prefix, as many as its length (2.2.3.8).
abbrev pub spelled_bits : Prefix → BitsValue
spelled_bits p = record {
  unused = 8 * octet_count (prefix_len p) - prefix_len p;
  octets = take (octet_count (prefix_len p)) (to_be_bytes w128 (bits_of (prefix_addr p)));
}
