use Rattle.bcder_values.specs.bcder_tree.declared.mode.Mode.{Mode}
use Rattle.bcder_values.specs.Frames.{IsClosing}
use Rattle.bcder_values.proofs.frame.closing_len.Goals as goal
use Rattle.std.proofs.Common.{[], ◌∷◌, refl, sym, subst}

pub returns-in-Cer-clause-len : goal.returns-in-Cer-clause-len
returns-in-Cer-clause-len c = record { text = 0 ∷ 0 ∷ []; is = subst (λ (m : Mode). IsClosing m (0 ∷ 0 ∷ [])) (sym c.in-Cer.is) refl; long = refl }
