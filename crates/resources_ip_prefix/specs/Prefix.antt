-- What contracts see of a prefix.
use Rattle.std.specs.Prelude.{◌≡◌, ℕ, ◌≤◌}
use Rattle.resources_chain.specs.Sets.{Run}
use Rattle.resources_ip_prefix.specs.declared.addr.Addr.{Addr}
use Rattle.resources_ip_prefix.specs.declared.prefix.Prefix.{Prefix}
use Rattle.resources_ip_prefix.specs.Address.{bits_of}
use Rattle.resources_ip_prefix.specs.Prefixes.{prefix_run, first_of}

abbrev pub prefix_addr : Prefix → Addr
prefix_addr p = p.start

abbrev pub prefix_len : Prefix → ℕ
prefix_len p = p.len

-- The addresses that it covers.
abbrev pub run_of_prefix : Prefix → Run
run_of_prefix p = prefix_run (bits_of p.start) p.len

pub len_within : (p : Prefix) → prefix_len p ≤ 128
len_within p = p.short

pub host_clear : (p : Prefix)
    → first_of (prefix_len p) (bits_of (prefix_addr p)) ≡ bits_of (prefix_addr p)
host_clear p = p.clear
