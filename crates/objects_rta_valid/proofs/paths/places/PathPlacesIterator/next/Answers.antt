use Rattle.std.proofs.Common.{◌<◌, ◌-◌, ℕ, All, length, sym, subst}
use Rattle.objects_rta_valid.specs.Runs.{walk}
use Rattle.objects_rta_valid.proofs.KeptPaths.{walk_tail}
use Rattle.objects_rta_valid.proofs.paths.places.PathPlacesIterator.next.Goals as goal

pub invariant_of-self : goal.invariant_of-self
invariant_of-self c =
    let steps = c.self.inside.steps.now in
    let left = c.self.inside.left in
    subst (λ (p : ℕ). All (λ (place : ℕ). place < length steps) (walk steps (left - 1) p)) (sym c.onward-self-inside.ensures)
    (walk_tail steps left c.self.inside.place c.if-self-eq0.false c.self.invariant)
