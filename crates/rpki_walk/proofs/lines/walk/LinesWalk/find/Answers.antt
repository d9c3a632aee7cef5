use Rattle.std.proofs.Common.{ℕ, List, IfSome, subst}
use Rattle.rpki_walk.specs.resources.Resources.{Resources}
use Rattle.rpki_walk.specs.Remembered.{IsRemembered}
use Rattle.rpki_walk.proofs.lines.walk.LinesWalk.find.Goals as goal

pub returns : goal.returns
returns g c =
    let walk = c.args.self.now in
    let Like = λ (met : List (List ℕ)) (held : Resources). IfSome c.find.result (IsRemembered walk.before.walked.items met c.args.uri.now c.args.keys.now held) in
    subst (λ (held : Resources). Like walk.met.items held) c.in_ok-held.ensures
    (subst (λ (met : List (List ℕ)). Like met c.in_ok-held.held) c.as_slice.ensures.value c.find.ensures)
