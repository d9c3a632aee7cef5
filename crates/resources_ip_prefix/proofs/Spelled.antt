-- The octets that are written of a prefix.
use Rattle.std.proofs.Common.{◌≡◌, ℕ, zero, suc, ◌-◌, ◌*◌, ◌<◌, ◌≤◌, List, [], length, take, refl, ap, ◌∙◌, arith}
use Rattle.std.specs.Int.{bytes_high_first, to_be_bytes, w128}
use Rattle.std.proofs.lemmas.List.{length-take-le}
use Rattle.resources_ip_prefix.specs.bcder_octets.Bits.{BitsValue, IsBits}
use Rattle.resources_ip_prefix.specs.declared.prefix.Prefix.{Prefix}
use Rattle.resources_ip_prefix.specs.Address.{bits_of}
use Rattle.resources_ip_prefix.specs.Prefix.{prefix_addr, prefix_len, len_within}
use Rattle.resources_ip_prefix.specs.Written.{octet_count, spelled_bits}

pub few_octets : (len : ℕ) → len ≤ 128 → (octet_count len ≤ 16) × (len ≤ 8 * octet_count len) × (8 * octet_count len - len < 8)
few_octets len h = (omega arith, omega arith, omega arith)

pub length_bytes : (c n : ℕ) → length (bytes_high_first c n) ≡ c
length_bytes zero n = refl
length_bytes (suc c) n = ap suc (length_bytes c n)

pub length_taken : (k n : ℕ) → k ≤ 16 → length (take k (to_be_bytes w128 n)) ≡ k
length_taken k n h = length-take-le k (to_be_bytes w128 n) (omega (arith, length_bytes 16 n, h))

no_octets : (v : List ℕ) → v ≡ [] → length v ≡ 0
no_octets v e = ap length e

pub lawful_bits : (p : Prefix) → IsBits (spelled_bits p)
lawful_bits p =
    let few = few_octets (prefix_len p) (len_within p) in
    record {
      few = few.2;
      none = λ e.
          let long : length (spelled_bits p).octets ≡ octet_count (prefix_len p) = length_taken (octet_count (prefix_len p)) (bits_of (prefix_addr p)) few.0 in
          omega (arith, no_octets (spelled_bits p).octets e, long, few.1);
    }

abbrev pub made : ℕ → List ℕ → BitsValue
made unused octets = record { unused = unused; octets = octets }

pub same_spelled : (p : Prefix) {u : ℕ} {v : List ℕ} → u ≡ (spelled_bits p).unused → v ≡ (spelled_bits p).octets → made u v ≡ spelled_bits p
same_spelled p {u} {v} e f = ap (λ (a : ℕ). made a v) e ∙ ap (made (spelled_bits p).unused) f
