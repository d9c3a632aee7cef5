-- Facts of runs, by their ends.
use Rattle.std.proofs.Common.{◌≡◌, ℕ, subst}
use Rattle.resources_asn.specs.resources_chain.Sets.{Run}

-- What is so of a run is so of that with equal ends.
pub as_ends : (F : Run → Type 0) {a b c d : ℕ} → a ≡ c → b ≡ d → F (record { first = a; last = b }) → F (record { first = c; last = d })
as_ends F {a} {b} {c} {d} e f p = subst (λ (y : ℕ). F (record { first = c; last = y })) f (subst (λ (x : ℕ). F (record { first = x; last = b })) e p)
