-- Which ranges are prefixes.
use Rattle.std.proofs.Common.{◌≡◌, ℕ, ◌+◌, ◌-◌, ◌≤◌, ap, subst, arith}
use Rattle.std.specs.Int.Count.{count_leading_zeros, leading_unique}
use Rattle.std.proofs.lemmas.Nat.{pow_pos}
use Rattle.resources_ip_block.specs.resources_chain.Sets.{Run}
use Rattle.resources_ip_prefix.specs.Prefixes.{span_of, first_of, prefix_run}

-- The length of a prefix is given by how far its last address is from its first.
pub length_told : (size len : ℕ) → len ≤ 128 → size ≡ span_of len - 1 → len ≡ count_leading_zeros 128 size
length_told size len h e =
    leading_unique 128 size len (128 - len) (omega arith) (omega (arith, e, pow_pos (128 - len))) (omega (arith, e, pow_pos (128 - len)))

-- Where a range is some prefix's, it is that of the prefix that is tried, whose length is given by its size.
pub record IsOwn (first last size : ℕ) : Type 0 where
  pub min : first_of (count_leading_zeros 128 size) first ≡ first
  pub max : first_of (count_leading_zeros 128 size) first + (span_of (count_leading_zeros 128 size) - 1) ≡ last

pub tried : (r : Run) (size addr len : ℕ) → size ≡ r.last - r.first → len ≤ 128 → first_of len addr ≡ addr → prefix_run addr len ≡ r → IsOwn r.first r.last size
tried r size addr len is h clear e =
    let f : addr ≡ r.first = ap (λ (x : Run). x.first) e in
    let l : addr + (span_of len - 1) ≡ r.last = ap (λ (x : Run). x.last) e in
    let told : len ≡ count_leading_zeros 128 size = length_told size len h (omega (arith, f, l, is)) in
    let own : first_of len r.first ≡ r.first = subst (λ (a : ℕ). first_of len a ≡ a) f clear in
    let end : first_of len r.first + (span_of len - 1) ≡ r.last = omega (arith, own, f, l) in
    record {
      min = subst (λ (k : ℕ). first_of k r.first ≡ r.first) told own;
      max = subst (λ (k : ℕ). first_of k r.first + (span_of k - 1) ≡ r.last) told end;
    }
