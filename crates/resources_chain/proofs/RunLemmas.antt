-- What blocks are compared by: the bounds of two runs.
use Rattle.std.proofs.Common.{◌≡◌, ℕ, ◌<◌, ◌≤◌, ◌⊎◌, ◌↔◌, Bool, true, false, IsTrue, not, inl, inr, refl, arith}
use Rattle.std.proofs.lemmas.Bool.Decides.{leb_tells}
use Rattle.resources_chain.specs.Sets.{Run, InRun}

pub le_or_lt : (a b : ℕ) → (a ≤ b) ⊎ (b < a)
le_or_lt a b = elim (leb_tells a b) [ inl h ↦ inl h.1 | inr h ↦ inr h.1 ]

-- Two runs of which the first doesn't end before the second overlap unless the second ends before the first.
pub overlap_told : (a b : Run) (before : Bool) → a.first ≤ a.last → b.first ≤ b.last → (IsTrue false ↔ (a.last < b.first)) → (IsTrue before ↔ (b.last < a.first)) → IsTrue (not before) ↔ ((n : ℕ) × InRun a n × InRun b n)
overlap_told a b true p q reach told = (λ t. absurd cc, λ w. absurd (let low : b.last < a.first = told.0 refl in let x : a.first ≤ w.0 = w.1.0 in let y : w.0 ≤ b.last = w.2.1 in omega arith))
overlap_told a b false p q reach told =
    let ahead : b.first ≤ a.last = elim (le_or_lt b.first a.last) [ inl h ↦ h | inr h ↦ let wrong : IsTrue false = reach.1 h in absurd cc ] in
    let high : a.first ≤ b.last = elim (le_or_lt a.first b.last) [ inl h ↦ h | inr h ↦ let wrong : IsTrue false = told.1 h in absurd cc ] in (
      λ t. elim (le_or_lt a.first b.first) [
        | inl h ↦ (b.first, (h, ahead), (omega arith, q))
        | inr h ↦ (a.first, (omega arith, p), (omega arith, high))
      ],
      λ w. refl,
    )

-- Of two sets one is inside the other: they are one exactly where the other is inside too.
pub both_ways : {P Q : ℕ → Type 0} {R : Type 0} → ((n : ℕ) → P n → Q n) → (R ↔ ((n : ℕ) → Q n → P n)) → R ↔ ((n : ℕ) → P n ↔ Q n)
both_ways inside told = (λ r n. (inside n, told.0 r n), λ same. told.1 (λ n. (same n).1))

-- And they differ where the one isn't inside.
pub not_inside : {P Q : ℕ → Type 0} (r : Bool) → r ≡ false → (IsTrue r ↔ ((n : ℕ) → P n → Q n)) → IsTrue r ↔ ((n : ℕ) → P n ↔ Q n)
not_inside true e told = absurd cc
not_inside false e told = (λ t. absurd cc, λ same. told.1 (λ n. (same n).0))

-- A number that a test doesn't find before another isn't before it.
pub not_before : {a b : ℕ} → (IsTrue false ↔ (a < b)) → b ≤ a
not_before {a} {b} told = elim (le_or_lt b a) [ inl h ↦ h | inr h ↦ let wrong : IsTrue false = told.1 h in absurd cc ]
