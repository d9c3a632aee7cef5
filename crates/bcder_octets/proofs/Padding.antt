-- The last octet, and its unused bits.
use Rattle.std.proofs.Common.{◌≡◌, ℕ, ◌*◌, ◌%◌, ◌^◌, ◌<◌, List, [], ◌∷◌, ◌++◌, refl, ap, ◌∙◌, arith}
use Rattle.std.proofs.Math.Nat.{mod-eq_of_lt}
use Rattle.std.proofs.Math.Pow.{pow-lt}
use Rattle.bcder_octets.specs.BitContents.{last_octet}

pub last_octet-push : (v : List ℕ) (a : ℕ) → last_octet (v ++ a ∷ []) ≡ a
last_octet-push [] a = refl
last_octet-push (b ∷ []) a = refl
last_octet-push (b ∷ c ∷ v) a = last_octet-push (c ∷ v) a

-- A one shifted by fewer than 8 bits is an octet.
pub shifted : (k : ℕ) → k < 8 → 1 * 2 ^ k % 256 ≡ 2 ^ k
shifted k h = ap (λ (n : ℕ). n % 256) (omega arith) ∙ mod-eq_of_lt (pow-lt {i = k} {j = 8} h)
