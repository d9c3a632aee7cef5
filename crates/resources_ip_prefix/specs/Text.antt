-- Texts of addresses and prefixes.
use Rattle.std.specs.Prelude.{ℕ, ◌/◌, ◌^◌, List, ◌++◌, codes, decimal}
use Rattle.std.specs.Int.{to_be_bytes, w32, w128}
use Rattle.std.specs.Net.Addr.{segments_of}
use Rattle.std.specs.Net.Text.{ipv4_text, ipv6_text}

-- The first 32 bits in dotted decimal, and all bits in groups (RFC 5952).
abbrev pub v4_text : ℕ → List ℕ
v4_text n = ipv4_text (to_be_bytes w32 (n / 2 ^ 96))

abbrev pub v6_text : ℕ → List ℕ
v6_text n = ipv6_text (segments_of (to_be_bytes w128 n))

-- `address/length`.
abbrev pub slashed : List ℕ → ℕ → List ℕ
slashed text len = text ++ (codes "/" ++ decimal len)
