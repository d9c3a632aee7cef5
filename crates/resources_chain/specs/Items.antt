-- For items that are numbers with a proof that each is in range.
use Rattle.std.specs.Prelude.{◌≡◌, ℕ, ◌≤◌}
use Rattle.std.proofs.Common.{ap, subst}
use Rattle.std.proofs.Math.Bridge.{le_prop}

-- What is made of a number in range depends on the number alone.
pub made_alike : {A : Type 0} {limit : ℕ} (make : (v : ℕ) → v ≤ limit → A) (v w : ℕ)
    (p : v ≤ limit) (q : w ≤ limit) → v ≡ w → make v p ≡ make w q
made_alike {limit = limit} make v w p q e =
    subst (λ (z : ℕ). (h : z ≤ limit) → make v p ≡ make z h) e
    (λ h. ap (λ (t : v ≤ limit). make v t) (le_prop p h)) q
