-- What calls of a reader or a writer do to its count of failures.
use Rattle.std.specs.Prelude.{◌≡◌, ℕ, ◌+◌, ◌-◌, ◌^◌, min, zero, suc, List, Option, Result, Ok, Err, MatchResult}

-- One more, or as many as before where a `u64` can't count more.
abbrev pub one_more : ℕ → ℕ
one_more n = min (n + 1) (2 ^ 64 - 1)

-- An error is counted, and nothing else.
abbrev pub CountsErrors : {T E : Type 0} → Result T E → ℕ → ℕ → Type 0
CountsErrors r old new = MatchResult r (λ _. new ≡ old) (λ _. new ≡ one_more old)

-- A write that takes nothing is counted too.
abbrev pub CountsStops : {E : Type 0} → Result ℕ E → ℕ → ℕ → Type 0
CountsStops (Ok zero) old new = new ≡ one_more old
CountsStops (Ok (suc n)) old new = new ≡ old
CountsStops (Err e) old new = new ≡ one_more old

-- Counts of failures, before and after.
pub record Counts : Type 0 where
  pub before : ℕ
  pub after : ℕ

-- Nothing was read, or written, and no call failed.
pub record IsLeft (before after : Option (List ℕ)) (counts : Counts) : Type 0 where
  pub octets : after ≡ before
  pub failures : counts.after ≡ counts.before
