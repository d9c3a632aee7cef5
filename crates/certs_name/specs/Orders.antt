-- How serial numbers are hashed.
use Rattle.std.proofs.Common.{◌≡◌, ap}
use Rattle.std.specs.Prelude.{ℕ, ◌/◌, ◌%◌, ◌^◌, ◌++◌, IsTrue, nat_eq}
use Rattle.std.specs.Cmp.{unsigned_Decides}
use Rattle.std.specs.Hash as fed

-- The bits above the lowest 128, and these.
abbrev pub halves_fed : ℕ → fed.HashWrites
halves_fed n = fed.u32 (n / 2 ^ 128) ++ fed.u128 (n % 2 ^ 128)

pub halves_alike : (x y : ℕ) → IsTrue (nat_eq x y) → halves_fed x ≡ halves_fed y
halves_alike x y e = ap halves_fed ((unsigned_Decides x y).0 e)
