-- The prefixes that cover a run of addresses, as few as there can be.
use Rattle.std.specs.Prelude.{◌≡◌, ℕ, ◌+◌, ◌-◌, ◌≤◌, ◌⊎◌, ◌↔◌, List, [], ◌∷◌, Option, Some, None, IsSomeAnd, map}
use Rattle.std.specs.Iterator.{Count, at_most}
use Rattle.resources_ip_block.specs.resources_chain.Sets.{Run, InRun, InRuns}
use Rattle.resources_ip_block.specs.declared.cover.RangePrefixes.{RangePrefixes}
use Rattle.resources_ip_prefix.specs.declared.prefix.Prefix.{Prefix}
use Rattle.resources_ip_block.specs.declared.range.AddressRange.{AddressRange}
use Rattle.resources_ip_prefix.specs.Address.{bits_of}
use Rattle.resources_ip_prefix.specs.Prefix.{prefix_addr, prefix_len, run_of_prefix}
use Rattle.resources_ip_prefix.specs.Prefixes.{span_of, first_of, last_of}
use Rattle.resources_ip_block.specs.Range.{run_of_range}

-- The prefix of this address and length lies in the run.
pub record LiesIn (r : Run) (addr len : ℕ) : Type 0 where
  pub short : len ≤ 128
  pub clear : first_of len addr ≡ addr
  pub from : r.first ≤ addr
  pub to : addr + (span_of len - 1) ≤ r.last

-- It does, and the prefix that is one bit shorter doesn't, or there is none.
pub record IsLargest (r : Run) (addr len : ℕ) : Type 0 where
  pub lies : LiesIn r addr len
  pub alone : (shorter : ℕ) → shorter + 1 ≡ len → ¬ (LiesIn r (first_of shorter addr) shorter)

-- The list has the prefix of this address and length.
abbrev pub Has : List Prefix → ℕ → ℕ → Type 0
Has [] addr len = ⊥
Has (p ∷ ps) addr len = ((bits_of (prefix_addr p) ≡ addr) × (prefix_len p ≡ len)) ⊎ Has ps addr len

-- None begins before the number, and each begins after the one before it.
abbrev pub Ascend : ℕ → List Prefix → Type 0
Ascend n [] = Unit {0}
Ascend n (p ∷ ps) = (n ≤ (run_of_prefix p).first) × Ascend ((run_of_prefix p).last + 1) ps

-- All prefixes that lie in the run and have no parent that does, ascending; they have exactly its addresses.
pub record IsCover (r : Run) (prefixes : List Prefix) : Type 0 where
  pub all : (addr len : ℕ) → Has prefixes addr len ↔ IsLargest r addr len
  pub ascending : Ascend r.first prefixes
  pub exact : (n : ℕ) → InRuns (map run_of_prefix prefixes) n ↔ InRun r n

-- The run of all addresses whose first 32 bits are those of its numbers.
abbrev pub filled : Run → Run
filled r = record { first = first_of 32 r.first; last = last_of 32 r.last }

-- The longest prefix, by its addresses, that begins where the run does and lies in it.
pub record IsFirst (r : Run) (p : Prefix) : Type 0 where
  pub start : bits_of (prefix_addr p) ≡ r.first
  pub to : (run_of_prefix p).last ≤ r.last
  pub longest : (len : ℕ) → len ≤ 128 → first_of len r.first ≡ r.first
      → r.first + (span_of len - 1) ≤ r.last → prefix_len p ≤ len

-- What is left of the run after the prefix.
abbrev pub IsBehind : Run → Prefix → Option AddressRange → Type 0
IsBehind r p None = (run_of_prefix p).last ≡ r.last
IsBehind r p (Some rest) = let left : Run = record { first = (run_of_prefix p).last + 1; last = r.last } in run_of_range rest ≡ left

-- One call of `next`.
abbrev pub GivesFrom : Option AddressRange → Option Prefix → Option AddressRange → Type 0
GivesFrom None given behind = (given ≡ None) × (behind ≡ None)
GivesFrom (Some range) given behind =
    IsSomeAnd given (λ p. IsFirst (run_of_range range) p × IsBehind (run_of_range range) p behind)

abbrev pub gives : RangePrefixes → Option Prefix → RangePrefixes → Type 0
gives s given t = GivesFrom s.left given t.left

abbrev pub count_left : Option AddressRange → ℕ
count_left None = 0
count_left (Some range) = (run_of_range range).last - (run_of_range range).first + 1

abbrev pub left_at_most : RangePrefixes → Count
left_at_most s = at_most (count_left s.left)
