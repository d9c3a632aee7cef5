-- Values that can be written.
use Rattle.std.specs.Prelude.{ℕ, ◌^◌, ◌<◌, List, length}

-- A text of P, whose octets can be counted.
pub record Writable (P : List ℕ → Type 0) : Type 0 where
  pub text : List ℕ
  pub is : P text
  pub counted : length text < 2 ^ 64
