-- The search that halves a row.
use Rattle.std.proofs.Common.{◌≡◌, ◌≢◌, ℕ, zero, suc, ◌+◌, ◌-◌, ◌*◌, ◌/◌, ◌<◌, ◌≤◌, ◌^◌, inl, inr, sym, ◌∙◌, arith}
use Rattle.std.specs.declared.cmp.Ordering.{Ordering}
use Rattle.std.specs.declared.cmp.Ordering.TheVariants.{Less, Equal, Greater}
use Rattle.resources_chain.specs.Rows.{IsOrdered}
use Rattle.resources_chain.proofs.RunLemmas.{le_or_lt}

-- So many places are left and so many looks were made: for each number of digits that writes the size, as many looks less
-- as those that are left need.
pub record Left (size old count gap : ℕ) : Type 0 where
  pub more : old ≤ count
  pub few : (digits : ℕ) → size < 2 ^ digits → (rest : ℕ) × (gap < 2 ^ rest) × (count + rest ≤ old + digits)

-- What is sought is at no place but from `low` to before `high`.
pub record Halving (size : ℕ) (stands : ℕ → Ordering) (old now : ℕ) (places : ℕ → Ordering) (count low high : ℕ) : Type 0 where
  pub same_size : now ≡ size
  pub same_places : (k : ℕ) → places k ≡ stands k
  pub below : (k : ℕ) → k < low → stands k ≡ Less
  pub behind : (k : ℕ) → high ≤ k → k < size → stands k ≡ Greater
  pub order : low ≤ high
  pub within : high ≤ size
  pub left : Left size old count (high - low)

halved : (rest gap less : ℕ) → gap < 2 ^ rest → 0 < gap → less ≤ gap / 2 → (fewer : ℕ) × (less < 2 ^ fewer) × (fewer + 1 ≡ rest)
halved zero gap less h some l = absurd (omega arith)
halved (suc rest) gap less h some l = let twice : 2 ^ (suc rest) ≡ 2 * 2 ^ rest = grind arith in (rest, omega arith, omega arith)

-- One look more, and at most half of the places are left.
left_halved : {size old count gap : ℕ} (looks less : ℕ) → Left size old count gap → looks ≡ count + 1 → 0 < gap → less ≤ gap / 2 → Left size old looks less
left_halved {gap = gap} looks less l e some h = record {
  more = let m = l.more in omega arith;
  few = λ digits d.
      let f = l.few digits d in
      let n = halved f.0 gap less f.1 some h in
      (n.0, n.1, omega (arith, f.2, n.2));
}

-- A look is left.
pub has_room : {size old count gap : ℕ} → Left size old count gap → 0 < gap → size < 2 ^ 64 → old ≤ 18446744073709551551 → count < 18446744073709551615
has_room {gap = gap} l some fits room =
    let f = l.few 64 fits in
    let n = halved f.0 gap 0 f.1 some (omega arith) in
    omega (arith, f.2, n.2)

-- The place in the middle is before what is sought.
pub halving_less : {size : ℕ} {stands : ℕ → Ordering} {old now : ℕ} {places : ℕ → Ordering} {count low high : ℕ} (next : ℕ) (after : ℕ → Ordering) (looks middle : ℕ) → IsOrdered size stands → Halving size stands old now places count low high → low < high → middle ≡ low + (high - low) / 2 → next ≡ now → ((k : ℕ) → after k ≡ places k) → looks ≡ count + 1 → places middle ≡ Less → Halving size stands old next after looks (middle + 1) high
halving_less {stands = stands} {places = places} {low = low} {high} next after looks middle o h some m same k_same more less = record {
  same_size = let e = h.same_size in omega arith;
  same_places = λ k. k_same k ∙ h.same_places k;
  below = λ k b. elim (le_or_lt middle k) [
    | inl at ↦ let e : k ≡ middle = omega arith in cc (e, h.same_places middle, less)
    | inr before ↦ elim (o k middle before (let w = h.within in omega arith)) [
      | inl first ↦ first
      | inr second ↦ absurd (let wrong : Less ≡ Greater = sym less ∙ h.same_places middle ∙ second in cc)
    ]
  ];
  behind = h.behind;
  order = omega arith;
  within = h.within;
  left = left_halved looks (high - (middle + 1)) h.left more (omega arith) (omega arith);
}

-- The place in the middle comes after what is sought.
pub halving_greater : {size : ℕ} {stands : ℕ → Ordering} {old now : ℕ} {places : ℕ → Ordering} {count low high : ℕ} (next : ℕ) (after : ℕ → Ordering) (looks middle : ℕ) → IsOrdered size stands → Halving size stands old now places count low high → low < high → middle ≡ low + (high - low) / 2 → next ≡ now → ((k : ℕ) → after k ≡ places k) → looks ≡ count + 1 → places middle ≡ Greater → Halving size stands old next after looks low middle
halving_greater {stands = stands} {places = places} {low = low} {high} next after looks middle o h some m same k_same more greater = record {
  same_size = let e = h.same_size in omega arith;
  same_places = λ k. k_same k ∙ h.same_places k;
  below = h.below;
  behind = λ k b w. elim (le_or_lt k middle) [
    | inl at ↦ let e : k ≡ middle = omega arith in cc (e, h.same_places middle, greater)
    | inr past ↦ elim (o middle k past w) [
      | inl first ↦ absurd (let wrong : Less ≡ Greater = sym first ∙ sym (h.same_places middle) ∙ greater in cc)
      | inr second ↦ second
    ]
  ];
  order = omega arith;
  within = let w = h.within in omega arith;
  left = left_halved looks (middle - low) h.left more (omega arith) (omega arith);
}

-- No place is left.
pub halving_none : {size : ℕ} {stands : ℕ → Ordering} {old now : ℕ} {places : ℕ → Ordering} {count low high : ℕ} → Halving size stands old now places count low high → high ≤ low → (k : ℕ) → k < size → stands k ≢ Equal
halving_none {stands = stands} {low = low} h all k w e =
    elim (le_or_lt low k) [
      | inl past ↦ let g = h.behind k (omega arith) w in let wrong : Greater ≡ Equal = sym g ∙ e in cc
      | inr before ↦ let l = h.below k before in let wrong : Less ≡ Equal = sym l ∙ e in cc
    ]
