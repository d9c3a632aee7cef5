-- Texts of ranges and blocks.
use Rattle.std.specs.Prelude.{◌≡◌, ℕ, ◌+◌, ◌-◌, ◌≤◌, ◌==◌, ◌&&◌, if◌then◌else◌, List, ◌++◌, codes}
use Rattle.std.specs.Int.Count.{count_leading_zeros}
use Rattle.resources_ip_block.specs.resources_chain.Sets.{Run}
use Rattle.resources_ip_prefix.specs.declared.addr.AddressFamily.{AddressFamily}
use Rattle.resources_ip_prefix.specs.declared.addr.AddressFamily.TheVariants.{Ipv4, Ipv6}
use Rattle.resources_ip_prefix.specs.Prefixes.{span_of, first_of, prefix_run}
use Rattle.resources_ip_prefix.specs.Text.{v4_text, v6_text, slashed}

-- `first-last`.
abbrev pub dashed : List ℕ → List ℕ → List ℕ
dashed first last = first ++ (codes "-" ++ last)

-- The text of a run: that of the prefix where it is one, else first and last.
pub record IsBlockText (address_text : ℕ → List ℕ) (r : Run) (text : List ℕ) : Type 0 where
  pub prefix : (len : ℕ) → len ≤ 128 → first_of len r.first ≡ r.first → prefix_run r.first len ≡ r
      → text ≡ slashed (address_text r.first) len
  pub range : ((len : ℕ) → len ≤ 128 → first_of len r.first ≡ r.first
      → ¬ (prefix_run r.first len ≡ r)) → text ≡ dashed (address_text r.first) (address_text r.last)

-- This text as a function of the run. How many addresses there are gives the length of the one prefix that can have them.
abbrev pub length_of_run : Run → ℕ
length_of_run r = count_leading_zeros 128 (r.last - r.first)

unfoldable pub block_text : (ℕ → List ℕ) → Run → List ℕ
block_text address_text r =
    if (first_of (length_of_run r) r.first == r.first) && (r.first + (span_of (length_of_run r) - 1) == r.last)
    then slashed (address_text r.first) (length_of_run r)
    else dashed (address_text r.first) (address_text r.last)

-- An address of the family.
abbrev pub address_text : AddressFamily → ℕ → List ℕ
address_text Ipv4 = v4_text
address_text Ipv6 = v6_text
