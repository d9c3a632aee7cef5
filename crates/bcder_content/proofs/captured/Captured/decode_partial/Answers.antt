use Rattle.std.proofs.Common.{List, ℕ, drop, sym, ap, ◌∙◌, subst}
use Rattle.bcder_content.specs.Kept.{SpellsValues}
use Rattle.bcder_content.proofs.Parts.{rest_spelled, rest_behind}
use Rattle.bcder_content.proofs.captured.Captured.decode_partial.Goals as goal

pub invariant_of-self : goal.invariant_of-self
invariant_of-self g c =
    let r = c.in-Ok.ensures.read in
    let m = c.self.inside.mode in
    subst (SpellsValues m) (sym (c.advance.ensures ∙ ap (λ (z : List ℕ). drop c.in-Ok.found.1 z) (sym c.as_slice.ensures) ∙ rest_behind r))
    (rest_spelled (subst (SpellsValues m) (sym c.as_slice.ensures) c.self.invariant) r.took)
