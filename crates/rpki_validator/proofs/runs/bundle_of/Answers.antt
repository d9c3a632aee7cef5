use Rattle.std.proofs.Common.{ℕ, List, sym, subst}
use Rattle.rpki_bundle.specs.Bundle.{BundleText, BundleValue}
use Rattle.rpki_validator.proofs.runs.bundle_of.Goals as goal

pub returns-in-Err-NotABundle-clause-refused : goal.returns-in-Err-NotABundle-clause-refused
returns-in-Err-NotABundle-clause-refused c b t =
    let none : (b : BundleValue) → BundleText c.in-Ok.shared b → ⊥ = rw c.in-Err-NotABundle.field-0-is at c.in-Err-NotABundle.ensures.not_a_bundle in
    none b (subst (λ (o : List ℕ). BundleText o b) (sym c.in-Ok.ensures.ok) t)
