-- AS numbers: those of four octets (RFC 6793 section 3).
use Rattle.std.specs.Prelude.{◌≡◌, ℕ, ◌-◌, ◌^◌, ◌≤◌, min}
use Rattle.std.specs.Coded.{Coded, code_by, coded_ℕ}
use Rattle.std.proofs.Common.{arith}
use Rattle.resources_chain.specs.Items.{made_alike}

-- The last AS number: 32 ones.
abbrev pub last_number : ℕ
last_number = 2 ^ 32 - 1

-- A number from 0 to the last.
pub record Number : Type 0 where
  pub value : ℕ
  pub in_range : value ≤ last_number

abbrev pub number_at : (n : ℕ) → n ≤ last_number → Number
number_at n h = record { value = n; in_range = h }

pub capped : (n : ℕ) → min n last_number ≤ last_number
capped n = omega arith

pub uncapped : (a : Number) → number_at (min a.value last_number) (capped a.value) ≡ a
uncapped a = made_alike number_at (min a.value last_number) a.value (capped a.value) a.in_range (let h = a.in_range in omega arith)

abbrev pub number_code : Coded Number
number_code =
    code_by ℕ coded_ℕ (λ a. a.value) (λ n. number_at (min n last_number) (capped n)) uncapped

-- Numbers of one value are one.
pub same_number : (a b : Number) → a.value ≡ b.value → a ≡ b
same_number a b e = made_alike number_at a.value b.value a.in_range b.in_range e
